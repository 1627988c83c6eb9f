-- Which values components can take (own rule for ISO/IEC 1539-1:2004, 4.5.9).
use Rattle.std.specs.Prelude.{⊤, ◌≡◌, ◌<◌, ℕ, true, false, List, [], ◌∷◌, Option, None, Some, Result, Ok, Err, slice_get}
use Rattle.f3_program.specs.declared.declarations.Component.{Component}
use Rattle.f3_program.specs.declared.declarations.Declared.{Declared}
use Rattle.f3_program.specs.declared.declarations.Kind.{Kind}
use Rattle.f3_program.specs.declared.program.Program.{Program}
use Rattle.f3_live_blocks.specs.Blocks.{Live}
use Rattle.f3_meaning_whole.specs.Act as m
use Rattle.f3_meaning_whole.specs.Act.{passed_at}
use Rattle.f3_meaning_whole.specs.Arithmetic.{value_fits}
use Rattle.f3_meaning_whole.specs.Shape.{spans_declared}
use Rattle.f3_meaning_whole.specs.Value.{Value, conforms}
use Rattle.f3_meaning_whole.specs.declared.run_error.RunError.{RunError}
use Rattle.f3_meaning_whole.specs.declared.run_error.RunError.TheVariants as error
use Rattle.f3_room_places.specs.declared.types.Types.{Types}
use Rattle.f3_word_cells.specs.declared.cell.Cell.{Cell}
use Rattle.f3_word_cells.specs.declared.cell.Cell.TheVariants as c
use Rattle.f3_word_cells.specs.declared.cell.Passed.TheVariants as passed
use Rattle.f3_word_copies.specs.Fits.{CanFit}

-- cells are these arguments, which are values
abbrev pub AreGiven : Program → Types → Live → List Cell → List m.Passed → Type 0
AreGiven p types live [] [] = ⊤
AreGiven p types live (c.Argument (passed.Given j d) ∷ zs) (m.Given k v ∷ ps) = (k ≡ j) × ((kind : Kind) × CanFit p types live kind d v) × AreGiven p types live zs ps
AreGiven p types live zs ps = ⊥

-- a component takes a value, or this is why not: the shape is looked at first
abbrev pub Tested : Declared → Value → Result ⊤ RunError → Type 0
Tested d v (Ok done) = (conforms (spans_declared d.dimensions.items) v ≡ true) × (value_fits d.kind.of v ≡ true)
Tested d v (Err error.ShapesDiffer) = conforms (spans_declared d.dimensions.items) v ≡ false
Tested d v (Err error.Overflow) = (conforms (spans_declared d.dimensions.items) v ≡ true) × (value_fits d.kind.of v ≡ false)
Tested d v (Err e) = ⊥

abbrev pub TestedFor : Declared → Option m.Passed → Result ⊤ RunError → Type 0
TestedFor d (Some (m.Given k v)) result = Tested d v result
TestedFor d a (Ok done) = ⊤
TestedFor d a (Err e) = ⊥

-- the component of a number does not take what is given for it, and all before it do
pub record TestedAt (cs : List Component) (ps : List m.Passed) (number : ℕ) (e : RunError) : Type 0 where
  pub component : Component
  pub there : slice_get cs number ≡ Some component
  pub fails : TestedFor component.declared (passed_at number ps) (Err e)
  pub before : (k : ℕ) (c : Component) → k < number → slice_get cs k ≡ Some c → TestedFor c.declared (passed_at k ps) (Ok tt)

-- all do, or one is the first that does not
abbrev pub Checked : List Component → List m.Passed → Result ⊤ RunError → Type 0
Checked cs ps (Ok done) = (k : ℕ) (c : Component) → slice_get cs k ≡ Some c → TestedFor c.declared (passed_at k ps) (Ok tt)
Checked cs ps (Err e) = (number : ℕ) × TestedAt cs ps number e
