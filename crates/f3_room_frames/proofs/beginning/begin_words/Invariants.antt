use Rattle.std.proofs.Common.{◌≡◌, List, map, take}
use Rattle.f3_program.specs.declared.program.Static as static
use Rattle.f3_meaning_whole.specs.Shape.{Shape}
use Rattle.f3_room_frames.specs.Layouts.{IsLayout}
use Rattle.f3_room_frames.specs.Initial.{initial_words, AllCanBegin}
use Rattle.f3_room_frames.proofs.beginning.begin_words.Given as goal

abbrev pub invariant-loop-slot : goal.invariant-loop-slot
invariant-loop-slot l = (ts : List Shape) → IsLayout ts (map (λ (s : static.Static). s.declared) l.statics) l.layout
    → AllCanBegin ts (take l.slot (map (λ (s : static.Static). s.declared) l.statics)) × (l.words.items ≡ initial_words ts (take l.slot (map (λ (s : static.Static). s.declared) l.statics)))
