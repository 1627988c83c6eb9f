-- What it is to copy a variable.
use Rattle.std.specs.Prelude.{◌≡◌, ◌≢◌, ◌⊎◌, ℕ, List, ◌+◌, ◌≤◌, ◌<◌, ◌^◌, true, false, [], length, take, drop, None, Result, Ok, Err}
use Rattle.std.specs.FinMap.{get as find}
use Rattle.f3_program.specs.declared.declarations.Declared.{Declared}
use Rattle.f3_live_blocks.specs.Blocks.{Live, IsLive, words_of, with_taken, with_words}
use Rattle.f3_meaning_whole.specs.Arithmetic.{constant_value}
use Rattle.f3_meaning_whole.specs.Shape.{Shape, shape_in}
use Rattle.f3_meaning_whole.specs.declared.run_error.RunError.TheVariants.{HeapHasNoRoom}
use Rattle.f3_rooms.specs.Forms.{room}
use Rattle.f3_rooms.specs.Places.{is_scalar_shape}
use Rattle.f3_rooms.specs.Values.{word}
use Rattle.f3_word_cells.specs.declared.cell.Area.{Area}
use Rattle.f3_word_cells.specs.declared.cell.Datum.{Datum}
use Rattle.f3_word_cells.specs.declared.cell.Datum.TheVariants as datum
use Rattle.f3_word_cells.specs.declared.state.Stop.{Stop}
use Rattle.f3_word_cells.specs.declared.state.Stop.TheVariants as stop
use Rattle.f3_word_reads.specs.Scalars.{scalar_of}

-- the words of what is declared so lie there
pub record LiesIn (ts : List Shape) (m : Live) (d : Declared) (a : Area) : Type 0 where
  pub live : IsLive m (a.elements).block
  pub within : (a.elements).offset + room ts d ≤ length (words_of m (a.elements).block)
  pub small : room ts d < 2 ^ 63
  pub scalar : (a.elements).dims.items ≡ [] → is_scalar_shape (shape_in ts a.of) ≡ true → room ts d ≡ 1

-- the same objects, whose words are the first of a new block
pub record IsCopy (ts : List Shape) (m n : Live) (d : Declared) (a b : Area) : Type 0 where
  pub of : b.of ≡ a.of
  pub dims : (b.elements).dims ≡ (a.elements).dims
  pub offset : (b.elements).offset ≡ 0
  pub fresh : find m (b.elements).block ≡ None
  pub is : n ≡ with_words (with_taken m (b.elements).block (room ts d)) (b.elements).block
      (take (room ts d) (drop (a.elements).offset (words_of m (a.elements).block)))

-- or a heap has no room for so many words, or the host no memory
abbrev pub Copies : (Full Spent : ℕ → Type 0) → List Shape → Live → Live → Declared → Area → Result Area Stop → Type 0
Copies Full Spent ts m n d a (Ok b) = IsCopy ts m n d a b
Copies Full Spent ts m n d a (Err (stop.Failed HeapHasNoRoom)) = Full (room ts d)
Copies Full Spent ts m n d a (Err stop.Memory) = Spent (room ts d)
Copies Full Spent ts m n d a (Err e) = ⊥

-- an array, or an object of derived type
abbrev pub IsLarge : List Shape → Area → Type 0
IsLarge ts a = ((a.elements).dims.items ≢ []) ⊎ (is_scalar_shape (shape_in ts a.of) ≡ false)

-- the value of a variable: a scalar, or a copy
abbrev pub Gives : (Full Spent : ℕ → Type 0) → List Shape → Live → Live → Declared → Area → Result Datum Stop → Type 0
Gives Full Spent ts m n d a (Ok (datum.Scalar k)) = (n ≡ m) × ((a.elements).dims.items ≡ []) × (is_scalar_shape (shape_in ts a.of) ≡ true)
    × (constant_value k ≡ scalar_of a.of (word m (a.elements).block (a.elements).offset))
Gives Full Spent ts m n d a (Ok (datum.Block b)) = IsLarge ts a × IsCopy ts m n d a b
Gives Full Spent ts m n d a (Err (stop.Failed HeapHasNoRoom)) = IsLarge ts a × Full (room ts d)
Gives Full Spent ts m n d a (Err stop.Memory) = Spent (room ts d)
Gives Full Spent ts m n d a (Err e) = ⊥
