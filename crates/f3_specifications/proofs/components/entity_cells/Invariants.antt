use Rattle.std.proofs.Common.{◌≡◌, ℕ, Option, map, take}
use Rattle.f3_tree.specs.declared.declaration.Entity.{Entity}
use Rattle.f3_tree.specs.Declarations.{entity_view}
use Rattle.f3_type_rules.specs.Scene.{Scene}
use Rattle.f3_type_rules.specs.Shapes.{cells_in, summed}
use Rattle.f3_type_rules.specs.Walks.{after, Known}
use Rattle.f3_declared.specs.Declarations.{tree_of}
use Rattle.f3_declared.specs.Spots.{spot_in}
use Rattle.f3_extents.specs.Counts.{counted}
use Rattle.f3_entities.specs.Growth.{Stands}
use Rattle.f3_specifications.proofs.components.entity_cells.Given as goal

abbrev pub invariant-loop-component : goal.invariant-loop-component
invariant-loop-component l =
    (s : Scene) → (k : Known) → (n : Option ℕ) → Stands s l.growth k → l.fn.before ≡ counted n
    → l.cells ≡ counted (after summed n (map (λ (x : Entity). cells_in (spot_in s l.spot) k (tree_of l.reading, entity_view x)) (take l.component-index l.list)))
