use Rattle.std.proofs.Common.{List, take}
use Rattle.f3_meaning_whole.specs.Shape.{Shape, parts_in}
use Rattle.f3_rooms.specs.Laws.{AreBare}
use Rattle.f3_room_frames.specs.Bare.{TellBare}
use Rattle.f3_room_frames.proofs.bare.are_bare.Given as goal

abbrev pub invariant-loop-component : goal.invariant-loop-component
invariant-loop-component l = (ts : List Shape) → TellBare ts l.bare → AreBare (parts_in ts (take l.component-index l.components))
