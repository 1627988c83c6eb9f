use Rattle.std.proofs.Common.{subst, List}
use Rattle.f3_program.specs.declared.declarations.Declared.{Declared}
use Rattle.f3_room_frames.specs.Sound.{CanStand}
use Rattle.f3_room_frames.proofs.LayoutLaws.{no_locals}
use Rattle.f3_room_frames.proofs.laying.lay_out_procedure.Goals as goal

pub returns-in_default : goal.returns-in_default
returns-in_default c = λ ts have. no_locals ts c.args.procedure.now (subst (λ (ds : List Declared). CanStand ts ds → ⊥) c.deref.ensures.value (rw c.in_default.is at (c.in_ok-layout.ensures ts have)))
