-- The next of some objects.
use Rattle.std.specs.Prelude.{◌≡◌, ◌⊎◌, ◌≤◌, ℕ, ◌+◌, Bool, false, List, [], ◌∷◌, length, reverse, Option, None, Some, slice_get}
use Rattle.f3_word_cells.specs.declared.cell.Object.{Object}
use Rattle.f3_word_cells.specs.declared.cell.Range.{Range}
use Rattle.f3_word_cells.specs.declared.state.Name.{Name}
use Rattle.f3_word_cells.specs.declared.state.Caller.{Caller}
use Rattle.f3_word_cells.specs.Cells.{names_in}
use Rattle.f3_word_cells.specs.States.{is_held_at}

-- the first of so many names, which is there, and those behind it
pub record IsFirst (ns : List Name) (range : Range) (object : Object) (rest : Range) : Type 0 where
  pub name : Name
  pub there : slice_get ns range.from ≡ Some name
  pub is : object ≡ name.object
  pub from : rest.from ≡ range.from + 1
  pub fewer : range.count ≡ rest.count + 1

-- or there is none
abbrev pub HasNext : Option (Object × Range) → List Name → Range → Type 0
HasNext None ns range = (range.count ≡ 0) ⊎ (length ns ≤ range.from)
HasNext (Some x) ns range = IsFirst ns range x.0 x.1

-- whether the latest caller passed a value that is held for the dummy of a number
abbrev pub is_passed_held : List Caller → List Name → ℕ → Bool
is_passed_held [] ns k = false
is_passed_held (f ∷ fs) ns k = is_held_at (names_in f.dummies ns) k

-- the latest caller, if there is one: the last on the stack
abbrev pub HasLatest : Option Caller → List Caller → Type 0
HasLatest None fs = reverse fs ≡ []
HasLatest (Some f) fs = (others : List Caller) × (reverse fs ≡ f ∷ others)
