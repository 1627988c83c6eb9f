use Rattle.std.proofs.Common.{◌≡◌, None, drop}
use Rattle.f3_kinds.specs.Calls.{actual_rows}
use Rattle.f3_typed_parts.specs.Noted.{noted}
use Rattle.f3_references.proofs.intrinsics.actuals.Given as goal

abbrev pub invariant-loop-position : goal.invariant-loop-position
invariant-loop-position l =
    noted l.first (actual_rows l.intrinsic l.data_type l.position (drop l.position l.given)) ≡ noted l.fn.first (actual_rows l.intrinsic None 0 l.given)
