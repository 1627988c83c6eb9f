-- Values of an array constructor (ISO/IEC 1539-1:2004, 4.7).
use Rattle.std.specs.Prelude.{⊤, ◌≡◌, ◌≢◌, ℕ, ℤ, List, [], ◌∷◌, Option, None, Some}
use Rattle.f3_program.specs.declared.declarations.Base.{Base}
use Rattle.f3_program.specs.declared.declarations.Base.TheVariants as base
use Rattle.f3_program.specs.declared.declarations.Constant.TheVariants as constant
use Rattle.f3_live_blocks.specs.Blocks.{Live, IsLive, words_of}
use Rattle.f3_room_levels.specs.Initial.{word_of}
use Rattle.f3_word_cells.specs.declared.cell.Datum.{Datum}
use Rattle.f3_word_cells.specs.declared.cell.Datum.TheVariants as datum
use Rattle.f3_word_cells.specs.declared.cell.Passed.TheVariants as passed
use Rattle.f3_word_cells.specs.declared.cell.Cell.{Cell}
use Rattle.f3_word_cells.specs.declared.cell.Cell.TheVariants as c
use Rattle.f3_word_cells.specs.declared.state.State.{State}
use Rattle.f3_word_cells.specs.States.{own}
use Rattle.f3_word_cells.specs.Moves.{Popped}

-- a type whose values are as this one is
abbrev pub base_of : Datum → Base
base_of (datum.Scalar (constant.Number z)) = base.Integer
base_of (datum.Scalar (constant.Truth b)) = base.Logical
base_of (datum.Block a) = a.of

-- its words
abbrev pub datum_words : Live → Datum → List ℤ
datum_words m (datum.Scalar z) = word_of z ∷ []
datum_words m (datum.Block a) = words_of m (a.elements).block

-- they stand in no word of this block
abbrev pub IsApart : Live → ℕ → Datum → Type 0
IsApart m block (datum.Scalar z) = ⊤
IsApart m block (datum.Block a) = IsLive m (a.elements).block × ((a.elements).block ≢ block)

-- the value that is the argument on top, if one is there
abbrev pub TookItem : Option Datum → State → State → Type 0
TookItem None old new = (number : ℕ) (d : Datum) (rest : List Cell) → own old ≡ c.Argument (passed.Given number d) ∷ rest → ⊥
TookItem (Some d) old new = (number : ℕ) × Popped (c.Argument (passed.Given number d)) old new
