use Rattle.std.proofs.Common.{◌≡◌, drop}
use Rattle.std.specs.List.{flat_map}
use Rattle.f3_tree.specs.declared.declaration.Declaration.{Declaration}
use Rattle.f3_tree.specs.Declarations.{declaration_view}
use Rattle.f3_typed_parts.specs.Noted.{noted}
use Rattle.f3_type_rules.specs.Declarations.{component_rows}
use Rattle.f3_type_rules.specs.Scene.{Scene}
use Rattle.f3_type_rules.specs.Walks.{Known}
use Rattle.f3_declared.specs.Spots.{spot_in}
use Rattle.f3_entities.specs.Growth.{Stands}
use Rattle.f3_specifications.proofs.components.components.Given as goal

abbrev pub invariant-loop-declaration : goal.invariant-loop-declaration
invariant-loop-declaration l =
    (s : Scene) → (k : Known) → Stands s l.growth k
    → noted l.first (flat_map (λ (d : Declaration). component_rows (spot_in s l.spot) k (declaration_view d)) (drop l.declaration-index l.list))
    ≡ noted l.fn.first (flat_map (λ (d : Declaration). component_rows (spot_in s l.spot) k (declaration_view d)) l.list)
