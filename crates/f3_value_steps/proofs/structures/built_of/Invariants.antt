use Rattle.std.proofs.Common.{map}
use Rattle.f3_meaning_whole.specs.Shape.{shapes_of}
use Rattle.f3_data.specs.Stores.{store_of}
use Rattle.f3_cells.specs.Cells.{passed_of}
use Rattle.f3_value_steps.proofs.Components.{SoFar}
use Rattle.f3_value_steps.proofs.structures.built_of.Given as goal

abbrev pub invariant-loop-number : goal.invariant-loop-number
invariant-loop-number l = SoFar (shapes_of l.types) l.components (map passed_of l.passed) (store_of l.store) l.number l.values.items
