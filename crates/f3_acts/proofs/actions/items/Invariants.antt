use Rattle.std.proofs.Common.{◌≡◌, drop}
use Rattle.std.specs.List.{flat_map}
use Rattle.f3_typed_parts.specs.Known.{context_of}
use Rattle.f3_typed_parts.specs.Noted.{noted}
use Rattle.f3_acts.specs.Inner.Rows.{item_row}
use Rattle.f3_acts.proofs.actions.items.Given as goal

abbrev pub invariant-loop-e : goal.invariant-loop-e
invariant-loop-e l = noted l.first (flat_map (item_row (context_of l.known l.at)) (drop l.e-index l.list)) ≡ noted l.fn.first (flat_map (item_row (context_of l.known l.at)) l.list)
