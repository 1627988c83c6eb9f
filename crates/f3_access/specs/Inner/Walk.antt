-- A walk over some places of a list.
use Rattle.std.specs.Prelude.{◌≡◌, ◌≢◌, ℕ, ◌<◌, ◌≤◌, List, [], Option, None, Some, length, nat_lt, if◌then◌else◌, slice_get}
use Rattle.std.specs.List.{slice_index_or}
use Rattle.f3_lookups.specs.declared.lookup.Visible.{Visible}

-- what stands at a place, if it is not before the next
abbrev pub unseen : List Visible → ℕ → ℕ → Option Visible
unseen pairs place next = if nat_lt place next then None else slice_get pairs place

-- what stands from the next place on gives nothing where none of the places, from the i-th on, is its own
abbrev pub RestIsSilent : (Visible → List Visible) → List Visible → ℕ → List ℕ → ℕ → Type 0
RestIsSilent gives pairs next places i =
    (q : ℕ) (e : Visible) → next ≤ q → slice_get pairs q ≡ Some e → ((k : ℕ) → i ≤ k → k < length places → slice_index_or places k 0 ≢ q) → gives e ≡ []
