use Rattle.std.proofs.Common.{◌≡◌, ◌≤◌, map, ◌+◌, drop}
use Rattle.f3_desc.specs.Shape.{shape_at, row, width, most_words}
use Rattle.f3_room_types.specs.Pieces.{layouts_of}
use Rattle.f3_room_types.proofs.pieces.Pieces.row_words.Given as goal

-- the words so far and those of the parts to come are those of all parts
abbrev pub invariant-loop-part : goal.invariant-loop-part
invariant-loop-part l = record {
  small : l.words ≤ most_words;
  all : l.words + width (row (map (shape_at (layouts_of l.self.pieces.items)) (drop l.part-index l.parts))) ≡ width (row (map (shape_at (layouts_of l.self.pieces.items)) l.parts));
}
