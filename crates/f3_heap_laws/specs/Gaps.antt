-- The gaps of a region (own rule): the maximal runs of adjoining words that lie in no live block, in order of place.
-- Words are numbered from 0, and a gap is the list of its words.
use Rattle.std.specs.Prelude.{ℕ, ◌+◌, ◌-◌, Bool, cond, not, ◌&&◌, nat_eq, nat_lt, nat_le, List, [], ◌∷◌, map, length, get_or, Option, None, Some}
use Rattle.std.specs.List.{filter, list_any, range_with_len}
use Rattle.std.specs.FinMap.{entries}
use Rattle.f3_live_blocks.specs.Blocks.{Live}
use Rattle.f3_heap_laws.specs.Account.{r}

-- the live blocks as pairs of place (`word` less 1) and size
abbrev pub places : Live → List (ℕ × ℕ)
places m = map (λ e. (e.0 - 1, r (length e.1.words))) (entries m)

-- word i lies in the block of the pair
abbrev pub lies_in : ℕ → ℕ × ℕ → Bool
lies_in i b = nat_le b.0 i && nat_lt i (b.0 + b.1)

-- i before the runs: it joins the first run where that begins at the next word
abbrev pub joined : ℕ → List (List ℕ) → List (List ℕ)
joined i [] = (i ∷ []) ∷ []
joined i (run ∷ runs) = cond (nat_eq (get_or run 0 i) (i + 1)) ((i ∷ run) ∷ runs) ((i ∷ []) ∷ run ∷ runs)

-- numbers in order, as runs of adjoining ones
abbrev pub runs_of : List ℕ → List (List ℕ)
runs_of [] = []
runs_of (i ∷ is) = joined i (runs_of is)

abbrev pub gaps : List (ℕ × ℕ) → ℕ → List (List ℕ)
gaps blocks size = runs_of (filter (λ i. not (list_any (lies_in i) blocks)) (range_with_len 0 size))

-- a gap has room for a block of w words
abbrev pub is_wide : ℕ → List ℕ → Bool
is_wide w gap = nat_le (r w) (length gap)

abbrev pub first_word : List ℕ → Option ℕ
first_word [] = None
first_word (i ∷ is) = Some i

-- the front of the first gap that has room for a block of w words
abbrev pub first_wide : ℕ → List (List ℕ) → Option ℕ
first_wide w [] = None
first_wide w (gap ∷ rest) = cond (is_wide w gap) (first_word gap) (first_wide w rest)
