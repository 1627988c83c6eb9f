-- What words in blocks are, as values.
use Rattle.std.proofs.Common.{zero, suc}
use Rattle.std.specs.Prelude.{ℕ, ◌+◌, ℤ, pos, negsuc, Bool, true, not, nat_eq, List, [], ◌∷◌, slice_index_or}
use Rattle.f3_program.specs.declared.declarations.Declared.{Declared}
use Rattle.f3_live_blocks.specs.Blocks.{Live, words_of}
use Rattle.f3_meaning_whole.specs.Value.{Span, Value, Number, Truth, Composite, Array, Unallocated, Allocated, Values, none, more, joined, count}
use Rattle.f3_meaning_whole.specs.Shape.{Shape, Whole, Logical, Record, Parts, nothing, and, shape_in}
use Rattle.f3_rooms.specs.Held.{Held, Row, Holds, parts_of, first, others}
use Rattle.f3_rooms.specs.Forms.{Form, Laid, Allocatable, form_of, form_words, words_for, room}

-- a word of a block
abbrev pub word : Live → ℕ → ℕ → ℤ
word m block i = slice_index_or (words_of m block) i (pos 0)

-- 0 is .FALSE., any other word .TRUE.
abbrev pub is_set : ℤ → Bool
is_set (pos n) = not (nat_eq n 0)
is_set (negsuc n) = true

-- so many objects one behind another, each of so many words and read so, from a word of a block on
abbrev pub elements : ℕ → ℕ → (ℕ → ℕ → Held → Value) → ℕ → ℕ → Row → List Value
elements zero n f b o hs = []
elements (suc k) n f b o hs = f b o (first hs) ∷ elements k n f b (o + n) (others hs)

-- one object, or the elements of an array
abbrev pub laid : ℕ → List Span → ℕ → (ℕ → ℕ → Held → Value) → ℕ → ℕ → Held → Value
laid zero ss n f b o h = f b o h
laid (suc rank) ss n f b o h = Array ss (joined (elements (count ss) n f b o (parts_of h)))

-- nothing, or what stands in the block of what an allocatable holds
abbrev pub holding : ℕ → ℕ → (ℕ → ℕ → Held → Value) → Held → Value
holding rank n f (Holds c ss h) = Allocated (laid rank ss n f c 0 h)
holding rank n f h = Unallocated

abbrev pub formed : Form → ℕ → (ℕ → ℕ → Held → Value) → ℕ → ℕ → Held → Value
formed (Laid rank ss) n f b o h = laid rank ss n f b o h
formed (Allocatable rank) n f b o h = holding rank n f h

-- an object of a type, and its components
abbrev mutual
  pub object : Live → Shape → ℕ → ℕ → Held → Value
  object m Whole b o h = Number (word m b o)
  object m Logical b o h = Truth (is_set (word m b o))
  object m (Record t parts) b o h = Composite (components m parts b o (parts_of h))

  pub components : Live → Parts → ℕ → ℕ → Row → Values
  components m nothing b o hs = none
  components m (and c s rest) b o hs =
      more (formed (form_of c.declared) (words_for s) (object m s) b o (first hs)) (components m rest b (o + form_words (form_of c.declared) (words_for s)) (others hs))

-- a variable, and variables one after another
abbrev pub variable : List Shape → Live → Declared → ℕ → ℕ → Held → Value
variable ts m d b o h = formed (form_of d) (words_for (shape_in ts d.kind.of)) (object m (shape_in ts d.kind.of)) b o h

abbrev pub variables : List Shape → Live → List Declared → ℕ → ℕ → Row → List Value
variables ts m [] b o hs = []
variables ts m (d ∷ ds) b o hs = variable ts m d b o (first hs) ∷ variables ts m ds b (o + room ts d) (others hs)
