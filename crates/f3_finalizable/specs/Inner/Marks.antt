-- What the worklist has marked.
use Rattle.std.specs.Prelude.{ℕ, ◌+◌, List, [], ◌∷◌, ◌++◌, Bool, true, false, not, slice_set, if◌then◌else◌}
use Rattle.std.specs.List.{slice_index_or}
use Rattle.f3_kinds.specs.Things.{Nature, derived}

-- marks, and what is still to do
abbrev pub State : Type 0
State = List Bool × List ℕ

abbrev pub is_seen : List Bool → ℕ → Bool
is_seen seen u = slice_index_or seen u false

-- there, and not marked
abbrev pub is_new : List Bool → ℕ → Bool
is_new seen u = not (slice_index_or seen u true)

-- an entity is marked, and noted where it was not marked before
abbrev pub see : State → ℕ → State
see s u = if is_new s.0 u then (slice_set s.0 u true, s.1 ++ u ∷ []) else s

abbrev pub see_all : State → List ℕ → State
see_all s [] = s
see_all s (u ∷ us) = see_all (see s u) us

abbrev pub has_final : Nature → Bool
has_final (derived home ks f) = f
has_final _ = false

abbrev pub see_final : State → (entity : ℕ) → Nature → State
see_final s i n = if has_final n then see s i else s

abbrev pub see_finals : State → (entity : ℕ) → List Nature → State
see_finals s i [] = s
see_finals s i (n ∷ ns) = see_finals (see_final s i n) (i + 1) ns

abbrev pub with_flag : Bool → Nature → Nature
with_flag b (derived home ks f) = derived home ks b
with_flag b n = n
