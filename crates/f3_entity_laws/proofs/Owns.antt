-- What the scopes declare by the things of a part.
use Rattle.std.proofs.Common.{◌≡◌, ℕ, List, [], ◌∷◌, ◌++◌, length, map, None, Some, refl, sym, ap, ◌∙◌}
use Rattle.std.specs.List.{flat_map}
use Rattle.std.proofs.lemmas.List.{map-append, length-map}
use Rattle.f3_scopes.specs.declared.outline.EntityKind.TheVariants.{Variable}
use Rattle.f3_scopes.specs.Outlines.{Own}
use Rattle.f3_scopes.specs.Scopes.{own, plain, association_own, procedure_own, declared_in, typed_result, name_or, outcome_of}
use Rattle.f3_tree.specs.declared.declaration.TypeSpecifier.{TypeSpecifier}
use Rattle.f3_tree.specs.declared.expression.Name.{Name}
use Rattle.f3_tree.specs.declared.program.ProcedureKind.{ProcedureKind}
use Rattle.f3_tree.specs.declared.program.ProcedureKind.TheVariants.{Subroutine, Function}
use Rattle.f3_tree.specs.Declarations.{EntityTree, DeclarationTree, SpecificationTree, declares, accesses, protects, saves, defines}
use Rattle.f3_tree.specs.Statements.{AssociationTree}
use Rattle.f3_kinds.specs.Things.{map_or}
use Rattle.f3_type_rules.specs.Members.{Member, Numbered}
use Rattle.f3_type_rules.specs.Natures.{specifier_of}
use Rattle.f3_entity_laws.specs.Things.{Home, Thing, name, procedure, result, associate, things_in, result_things, own_of}

entities_own : (h : Home) (d : DeclarationTree) (xs : List EntityTree)
    → map own_of (map (λ (x : EntityTree). name h (d, x)) xs) ≡ map (own d.attributes) xs
entities_own h d [] = refl
entities_own h d (x ∷ xs) = ap (λ (l : List Own). own d.attributes x ∷ l) (entities_own h d xs)

specification_own : (h : Home) (s : SpecificationTree) → map own_of (things_in h s) ≡ declared_in s
specification_own h (declares d) = entities_own h d d.entities
specification_own h (accesses a) = refl
specification_own h (protects p ns) = refl
specification_own h (saves p) = refl
specification_own h (defines t) = refl

pub part_own : (h : Home) (ss : List SpecificationTree) → map own_of (flat_map (things_in h) ss) ≡ flat_map declared_in ss
part_own h [] = refl
part_own h (s ∷ ss) =
    map-append own_of (things_in h s) (flat_map (things_in h) ss) ∙ ap (λ l. l ++ map own_of (flat_map (things_in h) ss)) (specification_own h s)
    ∙ ap (λ l. declared_in s ++ l) (part_own h ss)

-- as many as are declared
pub specification_long : (h : Home) (s : SpecificationTree) → length (things_in h s) ≡ length (declared_in s)
specification_long h s = sym (length-map (things_in h s) own_of) ∙ ap length (specification_own h s)

pub part_long : (h : Home) (ss : List SpecificationTree) → length (flat_map (things_in h) ss) ≡ length (flat_map declared_in ss)
part_long h ss = sym (length-map (flat_map (things_in h) ss) own_of) ∙ ap length (part_own h ss)

-- a result that the header types
result_by : (k : ProcedureKind) (n : Name) (g : TypeSpecifier → Thing) → ((s : TypeSpecifier) → own_of (g s) ≡ plain Variable (name_or (outcome_of k) n))
    → map own_of (map_or [] (λ (s : TypeSpecifier). g s ∷ []) (specifier_of k)) ≡ typed_result k n
result_by Subroutine n g h = refl
result_by (Function None outcome) n g h = refl
result_by (Function (Some s) outcome) n g h = ap (λ (o : Own). o ∷ []) (h s)

pub result_own : (u : Numbered) (m : Member) → map own_of (result_things u m) ≡ typed_result ((m.tree).header).kind ((m.tree).header).name
result_own u m = result_by ((m.tree).header).kind ((m.tree).header).name (λ (s : TypeSpecifier). result u m s) (λ s. refl)

pub result_long : (u : Numbered) (m : Member) → length (result_things u m) ≡ length (typed_result ((m.tree).header).kind ((m.tree).header).name)
result_long u m = sym (length-map (result_things u m) own_of) ∙ ap length (result_own u m)

pub procedures_own : (u : Numbered) (ms : List Member) → map own_of (map (λ (m : Member). procedure u m) ms) ≡ map (λ (m : Member). procedure_own m.tree) ms
procedures_own u [] = refl
procedures_own u (m ∷ ms) = ap (λ (l : List Own). procedure_own m.tree ∷ l) (procedures_own u ms)

pub associations_own : (h : Home) (n : ℕ) (xs : List AssociationTree)
    → map own_of (map (λ (x : AssociationTree). associate h n x) xs) ≡ map association_own xs
associations_own h n [] = refl
associations_own h n (x ∷ xs) = ap (λ (l : List Own). association_own x ∷ l) (associations_own h n xs)
