-- What is written of words.
use Rattle.std.specs.Prelude.{ℤ, ℕ, List, flat_map}
use Rattle.f3_program.specs.declared.declarations.Base.{Base}
use Rattle.f3_program.specs.declared.declarations.Base.TheVariants as base
use Rattle.f3_meaning_whole.specs.Value.{Value, Number, Truth}
use Rattle.f3_meaning_whole.specs.Exec.{text_of}
use Rattle.f3_live_blocks.specs.Blocks.{Live, words_of}
use Rattle.f3_meaning_whole.specs.Arithmetic.{constant_value}
use Rattle.f3_word_cells.specs.declared.cell.Datum.{Datum}
use Rattle.f3_word_cells.specs.declared.cell.Datum.TheVariants as datum
use Rattle.f3_rooms.specs.Values.{is_set}

-- the scalar of a type that a word is
abbrev pub scalar_in : Base → ℤ → Value
scalar_in base.Logical z = Truth (is_set z)
scalar_in of z = Number z

abbrev pub text_in : Base → ℤ → List ℕ
text_in of z = text_of (scalar_in of z)

-- of a value: a scalar, or each word of a block
abbrev pub datum_text : Live → Datum → List ℕ
datum_text m (datum.Scalar c) = text_of (constant_value c)
datum_text m (datum.Block a) = flat_map (text_in a.of) (words_of m (a.elements).block)
