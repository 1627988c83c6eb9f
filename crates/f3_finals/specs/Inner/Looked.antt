-- What a name in FINAL could finalize, by the place of its procedure in its module.
use Rattle.std.specs.Prelude.{ℕ, ◌-◌, nat_lt, List, Option, None, slice_get, if◌then◌else◌}
use Rattle.f3_lookups.specs.declared.lookup.Lookup.{Lookup}
use Rattle.f3_lookups.specs.declared.lookup.Lookup.TheVariants.{One}
use Rattle.f3_kinds.specs.Things.{map_or}
use Rattle.f3_finals.specs.declared.candidate.Candidate.{Candidate}
use Rattle.f3_finals.specs.Candidates.{rank_for}

-- of an entity; `first` is that of the first procedure
abbrev pub rank_at : (first : ℕ) → List (Option Candidate) → (type : ℕ) → (entity : ℕ) → Option ℕ
rank_at first cs t e = if nat_lt e first then None else map_or None (rank_for t) (slice_get cs (e - first))

abbrev pub rank_found : (first : ℕ) → List (Option Candidate) → (type : ℕ) → Lookup → Option ℕ
rank_found first cs t (One e) = rank_at first cs t e
rank_found first cs t _ = None
