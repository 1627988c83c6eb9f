use Rattle.std.proofs.Common.{◌≡◌, Some, map, take}
use Rattle.std.specs.List.{flat_map}
use Rattle.f3_tree.specs.declared.declaration.Declaration.{Declaration}
use Rattle.f3_tree.specs.declared.declaration.Entity.{Entity}
use Rattle.f3_tree.specs.Declarations.{declaration_view, entity_view}
use Rattle.f3_type_rules.specs.Scene.{Scene}
use Rattle.f3_type_rules.specs.Shapes.{cells_in, summed}
use Rattle.f3_type_rules.specs.Walks.{after, Known}
use Rattle.f3_declared.specs.Spots.{spot_in}
use Rattle.f3_extents.specs.Counts.{counted}
use Rattle.f3_entities.specs.Growth.{Stands}
use Rattle.f3_specifications.proofs.components.all_cells.Given as goal

abbrev pub invariant-loop-declaration : goal.invariant-loop-declaration
invariant-loop-declaration l =
    (s : Scene) → (k : Known) → Stands s l.growth k
    → l.cells ≡ counted (after summed (Some 0) (flat_map (λ (d : Declaration). map (λ (x : Entity). cells_in (spot_in s l.spot) k (declaration_view d, entity_view x)) d.entities.items) (take l.declaration-index l.list)))
