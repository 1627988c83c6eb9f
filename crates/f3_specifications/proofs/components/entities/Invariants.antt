use Rattle.std.proofs.Common.{◌≡◌, drop}
use Rattle.std.specs.List.{flat_map}
use Rattle.f3_tree.specs.declared.declaration.Entity.{Entity}
use Rattle.f3_tree.specs.Declarations.{entity_view}
use Rattle.f3_typed_parts.specs.Noted.{noted}
use Rattle.f3_type_rules.specs.Declarations.{entity_rows}
use Rattle.f3_type_rules.specs.Scene.{Scene}
use Rattle.f3_type_rules.specs.Walks.{Known}
use Rattle.f3_declared.specs.Declarations.{tree_of}
use Rattle.f3_declared.specs.Spots.{spot_in}
use Rattle.f3_entities.specs.Growth.{Stands}
use Rattle.f3_specifications.proofs.components.entities.Given as goal

abbrev pub invariant-loop-component : goal.invariant-loop-component
invariant-loop-component l =
    (s : Scene) → (k : Known) → Stands s l.growth k
    → noted l.first (flat_map (λ (x : Entity). entity_rows (spot_in s l.spot) (tree_of l.reading) k (entity_view x)) (drop l.component-index l.list))
    ≡ noted l.fn.first (flat_map (λ (x : Entity). entity_rows (spot_in s l.spot) (tree_of l.reading) k (entity_view x)) l.list)
