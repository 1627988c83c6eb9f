-- What operations on values answer.
use Rattle.std.specs.Prelude.{ℕ, List, flat_map, Bool, true, false, Result, Ok, Err}
use Rattle.f3_places.specs.declared.source.Place.{Place}
use Rattle.f3_program.specs.declared.declarations.Base.{Base}
use Rattle.f3_program.specs.declared.declarations.Base.TheVariants as base
use Rattle.f3_arithmetic.specs.declared.numbers.Width.{Width}
use Rattle.f3_arithmetic.specs.declared.numbers.Width.TheVariants.{Four, Eight}
use Rattle.f3_meaning_whole.specs.Value as m
use Rattle.f3_meaning_whole.specs.Arithmetic.{fits, converted}
use Rattle.f3_meaning_whole.specs.Ran.{Ran, ◌>>=◌, gives, fails}
use Rattle.f3_meaning_whole.specs.declared.run_error.RunError.{RunError}
use Rattle.f3_program.specs.declared.declarations.Component.{Component}
use Rattle.f3_program.specs.declared.declarations.Constant.{Constant}
use Rattle.f3_program.specs.declared.declarations.Declared.{Declared}
use Rattle.f3_program.specs.declared.declarations.Dimension.{Dimension}
use Rattle.f3_meaning_whole.specs.Shape.{Shape, shape_in, initial_of, initial_declared, spans_declared, initialized}
use Rattle.f3_meaning_whole.specs.Act.{laid_out}
use Rattle.f3_meaning_whole.specs.Exec.{text_of}
use Rattle.f3_data.specs.declared.value.Value.{Value}
use Rattle.f3_data.specs.Values.{value_of}

-- what an operation at a place gives, or the error with which it ends the run
abbrev pub value_ran : Result Value RunError → Place → Ran m.Value
value_ran (Ok v) place = gives (value_of v)
value_ran (Err e) place = fails e place

-- how wide the numbers of a type are
abbrev pub width_of : Base → Width
width_of base.Integer = Four
width_of base.Long = Eight
width_of base.Logical = Eight
width_of (base.Derived t) = Eight

-- whether a number among elements fits
abbrev pub element_fits : Base → m.Value → Bool
element_fits t (m.Number z) = fits t z
element_fits t v = true

-- with the bounds that LBOUND and UBOUND tell
abbrev pub shown_value : m.Value → m.Value
shown_value (m.Array ss vs) = m.Array (m.shown ss) vs
shown_value v = v

abbrev pub is_array : m.Value → Bool
is_array (m.Array ss vs) = true
is_array v = false

-- a value as what an allocatable of a type holds, or for an array of bounds
abbrev pub held_ran : Base → m.Value → Place → Ran m.Value
held_ran t v place = converted t v place >>= λ v. gives (m.Allocated v)

abbrev pub laid_ran : Declared → List m.Span → m.Value → Place → Ran m.Value
laid_ran d ss v place = converted d.kind.of v place >>= λ v. gives (laid_out d.kind.rank ss v)

-- the initial value of a component
abbrev pub component_value : List Shape → Component → m.Value
component_value shapes c = initial_declared c.declared (initial_of (shape_in shapes c.declared.kind.of))

-- the bytes of a value: those of the elements of an array
abbrev pub value_text : m.Value → List ℕ
value_text (m.Array ss vs) = flat_map text_of (m.listed vs)
value_text v = text_of v

-- the initial value of an array of dimensions
abbrev pub array_value : List Dimension → List Constant → m.Value → m.Value
array_value ds cs v = m.Array (spans_declared ds) (m.joined (initialized (m.count (spans_declared ds)) cs v))
