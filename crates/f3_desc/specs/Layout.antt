-- What a layout shows (own rule): its pieces, and the shape of each.
use Rattle.std.specs.Prelude.{ℕ, ◌<◌, List, [], length}
use Rattle.std.specs.List.{All}
use Rattle.f3_desc.specs.declared.piece.Piece.{Piece}
use Rattle.f3_desc.specs.declared.piece.Piece.TheVariants.{Word, Allocatable, Record, Array}
use Rattle.f3_desc.specs.declared.layout.Layout.{Layout}
use Rattle.f3_desc.specs.Shape.{Shape, shapes_from, shape_at}

abbrev pub pieces_of : Layout → List Piece
pieces_of l = l.pieces.items

abbrev pub piece_count : Layout → ℕ
piece_count l = length (pieces_of l)

-- the shapes of all pieces
unfoldable pub shapes : Layout → List Shape
shapes l = shapes_from [] (pieces_of l)

-- the shape of the piece with this number
abbrev pub shape_in : Layout → ℕ → Shape
shape_in l k = shape_at (shapes l) k

-- the piece names only pieces before number k
abbrev pub NamesBefore : ℕ → Piece → Type 0
NamesBefore k Word = Unit {0}
NamesBefore k (Allocatable rank of) = of < k
NamesBefore k (Record parts) = All (λ p. p < k) parts.items
NamesBefore k (Array count of) = of < k
