-- Where arguments stand among those of a constructor.
use Rattle.std.specs.Prelude.{◌≡◌, ℕ, suc, ◌<◌, nat_eq, if◌then◌else◌, List, [], ◌∷◌, length, Option, None, Some}
use Rattle.std.specs.List.{slice_index_or}
use Rattle.f3_meaning_whole.specs.Act.{Passed}
use Rattle.f3_value_steps.specs.Inner.Structures.{number_in}

-- the position of the first argument with a number, if there is one: among arguments from a position on
abbrev pub position_of : ℕ → List Passed → ℕ → Option ℕ
position_of k [] position = None
position_of k (p ∷ ps) position = if nat_eq (number_in p) k then Some position else position_of k ps (suc position)

-- the first one of two, if there is one
abbrev pub first_of : Option ℕ → Option ℕ → Option ℕ
first_of None other = other
first_of (Some position) other = Some position

-- the entry of a number is filled, unless it was
abbrev pub Noted : ℕ → ℕ → List (Option ℕ) → List (Option ℕ) → Type 0
Noted number position old new = (k : ℕ) → k < length old → slice_index_or new k None
    ≡ (if nat_eq number k then first_of (slice_index_or old k None) (Some position) else slice_index_or old k None)

-- a table has the position of the first argument with each number that it has room for
abbrev pub AreFirsts : List (Option ℕ) → List Passed → Type 0
AreFirsts table ps = (k : ℕ) → k < length table → slice_index_or table k None ≡ position_of k ps 0
