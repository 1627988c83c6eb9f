use Rattle.std.proofs.Common.{List}
use Rattle.f3_meaning_whole.specs.Shape.{Shape}
use Rattle.f3_meaning_whole.specs.Store.{Path}
use Rattle.f3_desc.specs.Shape.{whole}
use Rattle.f3_desc.specs.Layout.{pieces_of}
use Rattle.f3_rooms.specs.Rooms.{Rooms}
use Rattle.f3_room_arrays.specs.Copies.{AreCopyable}
use Rattle.f3_room_arrays.proofs.Rows.{Gathered}
use Rattle.f3_room_arrays.proofs.copying.gather_copies.Given as goal

-- so many elements are copied
abbrev pub invariant-loop-number : goal.invariant-loop-number
invariant-loop-number g l =
    (ts : List Shape) (x : Rooms) (s : Shape) (ps : List Path) → AreCopyable ts (g.B.Blocks.blocks l.initial.heap) x l.elements s ps (whole (pieces_of l.layout)) l.to
    → Gathered ts (g.B.Blocks.blocks l.initial.heap) x l.elements s ps (whole (pieces_of l.layout)) l.to l.to_at (g.B.Blocks.blocks l.heap) l.number
