use Rattle.std.proofs.Common.{◌≡◌, map, List, [], drop, true}
use Rattle.f3_desc.specs.Shape.{Shape, shapes_from, are_pieces, width, has_holder}
use Rattle.f3_desc.proofs.layout.Layout.new.Given as goal

-- the tables so far are those of some shapes, over which the pieces to come make the whole
abbrev pub invariant-loop-piece : goal.invariant-loop-piece
invariant-loop-piece l = (done : List Shape) × (l.widths.items ≡ map width done) × (l.holders.items ≡ map has_holder done) × (shapes_from done (drop l.piece-index l.piece-items) ≡ shapes_from [] l.piece-items) × (are_pieces done (drop l.piece-index l.piece-items) ≡ true)
