-- What the words of an object are, in order (own rule): a layout is a list of pieces, of which each names earlier ones, and the last is the whole.
use Rattle.std.proofs.Common.{zero, suc}
use Rattle.std.specs.Prelude.{ℕ, ◌+◌, ◌*◌, ◌-◌, Bool, true, false, ◌&&◌, ◌||◌, nat_le, nat_lt, List, [], ◌∷◌, ◌++◌, map, length, get_or}
use Rattle.std.specs.List.{list_all}
use Rattle.f3_desc.specs.declared.piece.Piece.{Piece}
use Rattle.f3_desc.specs.declared.piece.Piece.TheVariants.{Word, Allocatable, Record, Array}

-- a piece with what it names written out
pub data Shape : Type 0 where
  Nothing : Shape
  Plain : Shape
  Holder : (rank : ℕ) → (of : Shape) → Shape
  Both : Shape → Shape → Shape
  Times : ℕ → Shape → Shape

-- how many words: an allocatable has its block's word, and a lower bound and an extent for each dimension
abbrev pub width : Shape → ℕ
width Nothing = 0
width Plain = 1
width (Holder rank of) = 1 + 2 * rank
width (Both s r) = width s + width r
width (Times n s) = n * width s

-- whether some word tells of an allocation
abbrev pub has_holder : Shape → Bool
has_holder Nothing = false
has_holder Plain = false
has_holder (Holder rank of) = true
has_holder (Both s r) = has_holder s || has_holder r
has_holder (Times zero s) = false
has_holder (Times (suc n) s) = has_holder s

-- shapes one after another
abbrev pub row : List Shape → Shape
row [] = Nothing
row (s ∷ ss) = Both s (row ss)

abbrev pub shape_at : List Shape → ℕ → Shape
shape_at shapes k = get_or shapes k Nothing

-- the shape of a piece, by those of the pieces before it
abbrev pub shape_of : List Shape → Piece → Shape
shape_of before Word = Plain
shape_of before (Allocatable rank of) = Holder rank (shape_at before of)
shape_of before (Record parts) = row (map (shape_at before) parts.items)
shape_of before (Array count of) = Times count (shape_at before of)

-- the shapes of all pieces
abbrev pub shapes_from : List Shape → List Piece → List Shape
shapes_from before [] = before
shapes_from before (p ∷ ps) = shapes_from (before ++ shape_of before p ∷ []) ps

-- the shape of the whole
abbrev pub whole : List Piece → Shape
whole ps = shape_at (shapes_from [] ps) (length ps - 1)

-- the most words of a piece: 16,777,216 times 15, which are the words of an allocatable of rank 7
abbrev pub most_words : ℕ
most_words = 251658240

-- the piece names earlier ones, has a rank of at most 7, and at most so many words
abbrev pub is_piece : List Shape → Piece → Bool
is_piece before Word = true
is_piece before (Allocatable rank of) = nat_le rank 7 && nat_lt of (length before)
is_piece before (Record parts) = list_all (λ k. nat_lt k (length before)) parts.items && nat_le (width (shape_of before (Record parts))) most_words
is_piece before (Array count of) = nat_lt of (length before) && nat_le (width (shape_of before (Array count of))) most_words

abbrev pub are_pieces : List Shape → List Piece → Bool
are_pieces before [] = true
are_pieces before (p ∷ ps) = is_piece before p && are_pieces (before ++ shape_of before p ∷ []) ps

-- a layout: a list of pieces that is not empty
abbrev pub is_layout : List Piece → Bool
is_layout ps = nat_lt 0 (length ps) && are_pieces [] ps
