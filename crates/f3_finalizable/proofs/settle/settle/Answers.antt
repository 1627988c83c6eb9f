use Rattle.std.proofs.Common.{length, ap, ◌∙◌}
use Rattle.f3_finalizable.proofs.Spreading.{things_long}
use Rattle.f3_finalizable.proofs.settle.settle.Goals as goal

pub tell_all-requires : goal.tell_all-requires
tell_all-requires c = ap length c.deref-2.ensures.value ∙ things_long c.deref.result.now c.in_ok-marks.marks.items c.in_ok-marks.ensures ∙ ap length c.deref.ensures.value
