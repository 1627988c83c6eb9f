use Rattle.std.proofs.Common.{◌≡◌, ℕ, drop}
use Rattle.std.specs.List.{flat_map}
use Rattle.f3_tree.specs.declared.declaration.Specification.{Specification}
use Rattle.f3_tree.specs.Declarations.{specification_view}
use Rattle.f3_typed_parts.specs.Noted.{noted}
use Rattle.f3_type_rules.specs.Names.{Declared, entries_in}
use Rattle.f3_type_rules.specs.Declarations.{local_rows}
use Rattle.f3_declared.specs.Scenery.{scene_in}
use Rattle.f3_declared.specs.Spots.{spot_in}
use Rattle.f3_declared.proofs.specifiers.locals.Given as goal

abbrev pub invariant-loop-specification : goal.invariant-loop-specification
invariant-loop-specification l =
    noted l.first (flat_map (λ (s : Specification). flat_map (λ (x : ℕ × Declared). local_rows (spot_in (scene_in l.known l.scenery) l.spot) x.1) (entries_in (specification_view s))) (drop l.specification-index l.part))
    ≡ noted l.fn.first (flat_map (λ (s : Specification). flat_map (λ (x : ℕ × Declared). local_rows (spot_in (scene_in l.known l.scenery) l.spot) x.1) (entries_in (specification_view s))) l.part)
