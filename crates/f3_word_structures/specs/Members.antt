-- The words of components, of the values that are given for them or of their initial values (ISO/IEC 1539-1:2004, 4.5.9).
use Rattle.std.specs.Prelude.{⊤, ◌≡◌, ℕ, suc, ◌/◌, ℤ, Bool, true, nat_eq, if◌then◌else◌, List, [], ◌∷◌, ◌++◌, length, Option, None, Some}
use Rattle.f3_program.specs.declared.declarations.Base.TheVariants as base
use Rattle.f3_program.specs.declared.declarations.Component.{Component}
use Rattle.f3_program.specs.declared.declarations.Declared.{Declared}
use Rattle.f3_live_blocks.specs.Blocks.{Live}
use Rattle.f3_desc.specs.declared.descriptor.Dim.{Dim}
use Rattle.f3_meaning_whole.specs.Shape.{Shape}
use Rattle.f3_meaning_whole.specs.Value.{Span, same_extents}
use Rattle.f3_rooms.specs.Forms.{room}
use Rattle.f3_room_levels.specs.Initial.{repeated, variable_words}
use Rattle.f3_word_arrays.specs.Items.{IsApart, datum_words}
use Rattle.f3_word_cells.specs.declared.cell.Area.{Area}
use Rattle.f3_word_cells.specs.declared.cell.Cell.{Cell}
use Rattle.f3_word_cells.specs.declared.cell.Cell.TheVariants as c
use Rattle.f3_word_cells.specs.declared.cell.Datum.{Datum}
use Rattle.f3_word_cells.specs.declared.cell.Datum.TheVariants as datum
use Rattle.f3_word_cells.specs.declared.cell.Passed.TheVariants as passed
use Rattle.f3_word_cells.specs.Areas.{spans_of}

-- the value that is the first argument of a number
abbrev pub given_in : ℕ → List Cell → Option Datum
given_in k [] = None
given_in k (c.Argument (passed.Given j d) ∷ zs) = if nat_eq j k then Some d else given_in k zs
given_in k (z ∷ zs) = given_in k zs

-- whether a value has this shape, or is a scalar (2.4.5)
abbrev pub fits_to : List Span → List Dim → Bool
fits_to ss [] = true
fits_to ss (e ∷ es) = same_extents ss (spans_of (e ∷ es))

abbrev pub conforms_to : List Span → Datum → Bool
conforms_to ss (datum.Scalar k) = true
conforms_to ss (datum.Block a) = fits_to ss (a.elements).dims.items

-- the words of a value, as often as they fill so many
abbrev pub given_words : Live → ℕ → Datum → List ℤ
given_words m room d = repeated (room / length (datum_words m d)) (datum_words m d)

-- those of a component
abbrev pub component_words : List Shape → Live → Declared → Option Datum → List ℤ
component_words ts m d None = variable_words ts d
component_words ts m d (Some v) = given_words m (room ts d) v

-- and of components, of which the first has this number
abbrev pub structure_words : List Shape → Live → List Cell → ℕ → List Component → List ℤ
structure_words ts m zs k [] = []
structure_words ts m zs k (c ∷ cs) = component_words ts m c.declared (given_in k zs) ++ structure_words ts m zs (suc k) cs

-- the words of values stand in no word of a block
abbrev pub AreApart : Live → ℕ → List Cell → Type 0
AreApart m block [] = ⊤
AreApart m block (c.Argument (passed.Given j d) ∷ zs) = IsApart m block d × AreApart m block zs
AreApart m block (z ∷ zs) = AreApart m block zs

-- a value fills so many words
abbrev pub Fills : Live → ℕ → Option Datum → Type 0
Fills m room None = ⊤
Fills m room (Some d) = length (given_words m room d) ≡ room

abbrev pub AreWhole : List Shape → Live → List Cell → ℕ → List Component → Type 0
AreWhole ts m zs k [] = ⊤
AreWhole ts m zs k (c ∷ cs) = Fills m (room ts c.declared) (given_in k zs) × AreWhole ts m zs (suc k) cs

-- one object of a type, from the first word of a block on
pub record IsObjectIn (from type : ℕ) (a : Area) : Type 0 where
  pub block : (a.elements).block ≡ from
  pub offset : (a.elements).offset ≡ 0
  pub dims : (a.elements).dims.items ≡ []
  pub of : a.of ≡ base.Derived type
