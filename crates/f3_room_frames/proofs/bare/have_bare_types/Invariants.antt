use Rattle.std.proofs.Common.{List, take}
use Rattle.f3_program.specs.declared.declarations.Declared.{Declared}
use Rattle.f3_meaning_whole.specs.Shape.{Shape}
use Rattle.f3_room_frames.specs.Bare.{TellBare}
use Rattle.f3_room_frames.specs.Initial.{HaveBareTypes}
use Rattle.f3_room_frames.specs.Layouts.{IsLayout}
use Rattle.f3_room_frames.proofs.bare.have_bare_types.Given as goal

abbrev pub invariant-loop-variable : goal.invariant-loop-variable
invariant-loop-variable l = (ts : List Shape) (ds : List Declared) → TellBare ts l.bare → IsLayout ts ds l.layout → HaveBareTypes ts (take l.variable-index ds)
