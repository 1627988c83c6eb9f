-- The names that a specification part declares.
use Rattle.std.proofs.Common.{◌≡◌, ℕ, List, [], ◌∷◌, ◌++◌, map, refl, ap, ◌∙◌}
use Rattle.std.specs.List.{flat_map}
use Rattle.std.proofs.lemmas.Grind.{flat_map-append}
use Rattle.f3_rules.specs.declared.breaks.Break.{Break}
use Rattle.f3_tree.specs.declared.declaration.Entity.{Entity}
use Rattle.f3_tree.specs.declared.declaration.Specification.{Specification}
use Rattle.f3_tree.specs.Declarations.{EntityTree, entity_view, DeclarationTree, specification_view}
use Rattle.f3_type_rules.specs.Names.{Declared, entries, entries_in}

pub rows_of_declaration : (row : Declared → List Break) (d : DeclarationTree) (xs : List Entity)
    → flat_map (λ (x : ℕ × Declared). row x.1) (map (λ (x : EntityTree). ((x.name).symbol, (d, x))) (map entity_view xs)) ≡ flat_map (λ (x : Entity). row (d, entity_view x)) xs
rows_of_declaration row d [] = refl
rows_of_declaration row d (x ∷ xs) = ap (λ ys. row (d, entity_view x) ++ ys) (rows_of_declaration row d xs)

pub rows_of_part : (row : Declared → List Break) (ss : List Specification)
    → flat_map (λ (x : ℕ × Declared). row x.1) (entries (map specification_view ss)) ≡ flat_map (λ (s : Specification). flat_map (λ (x : ℕ × Declared). row x.1) (entries_in (specification_view s))) ss
rows_of_part row [] = refl
rows_of_part row (s ∷ ss) =
    flat_map-append (λ (x : ℕ × Declared). row x.1) (entries_in (specification_view s)) (entries (map specification_view ss))
    ∙ ap (λ ys. flat_map (λ (x : ℕ × Declared). row x.1) (entries_in (specification_view s)) ++ ys) (rows_of_part row ss)
