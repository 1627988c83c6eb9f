-- The cells of the components of a type.
use Rattle.std.proofs.Common.{◌≡◌, ℕ, List, [], ◌∷◌, ◌++◌, Option, map, refl, ap, ◌∙◌}
use Rattle.std.specs.List.{flat_map}
use Rattle.f3_tree.specs.declared.declaration.Declaration.{Declaration}
use Rattle.f3_tree.specs.declared.declaration.Entity.{Entity}
use Rattle.f3_tree.specs.Declarations.{DeclarationTree, EntityTree, declaration_view, entity_view}
use Rattle.f3_type_rules.specs.Shapes.{cells_in}
use Rattle.f3_type_rules.specs.Walks.{Known, Spot}
use Rattle.f3_extents.proofs.Shaping.{map_map}

counts : Spot → Known → DeclarationTree → List (Option ℕ)
counts s k d = map (λ (x : EntityTree). cells_in s k (d, x)) d.entities

pub cells_along : (s : Spot) (k : Known) (xs : List Declaration)
    → flat_map (λ (d : Declaration). map (λ (x : Entity). cells_in s k (declaration_view d, entity_view x)) d.entities.items) xs
    ≡ flat_map (λ (d : DeclarationTree). map (λ (x : EntityTree). cells_in s k (d, x)) d.entities) (map declaration_view xs)
unfolding counts
cells_along s k [] = refl
cells_along s k (d ∷ ds) =
    ap (λ zs. zs ++ flat_map (λ (y : Declaration). map (λ (x : Entity). cells_in s k (declaration_view y, entity_view x)) y.entities.items) ds) (map_map (λ (x : EntityTree). cells_in s k (declaration_view d, x)) entity_view d.entities.items)
    ∙ ap (λ zs. counts s k (declaration_view d) ++ zs) (cells_along s k ds)
