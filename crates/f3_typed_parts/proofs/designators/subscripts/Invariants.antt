use Rattle.std.proofs.Common.{◌≡◌, drop}
use Rattle.std.specs.List.{flat_map}
use Rattle.f3_kinds.specs.Designators.{subscript_rows}
use Rattle.f3_typed_parts.specs.Noted.{noted}
use Rattle.f3_typed_parts.proofs.designators.subscripts.Given as goal

abbrev pub invariant-loop-one : goal.invariant-loop-one
invariant-loop-one l = noted l.first (flat_map subscript_rows (drop l.one-index l.given)) ≡ noted l.fn.first (flat_map subscript_rows l.given)
