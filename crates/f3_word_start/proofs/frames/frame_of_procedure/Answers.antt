use Rattle.std.proofs.Common.{subst, List}
use Rattle.f3_program.specs.declared.declarations.Declared.{Declared}
use Rattle.f3_room_places.specs.Places.{shapes}
use Rattle.f3_word_start.specs.Frames.{CanStand}
use Rattle.f3_word_start.proofs.Framing.{locals_not}
use Rattle.f3_word_start.proofs.frames.frame_of_procedure.Goals as goal

pub returns-in_default : goal.returns-in_default
returns-in_default c =
    let ts = shapes c.args.types in
    locals_not ts c.args.procedure.now (subst (λ (ds : List Declared). CanStand ts ds → ⊥) c.deref.ensures.value (rw c.in_default.is at c.in_ok-frame.ensures))
