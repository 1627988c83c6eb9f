-- The free words of a region whose blocks stand one after another (own rule), run by run. A run is the list of its words' places.
use Rattle.std.proofs.Common.{zero, suc}
use Rattle.std.specs.Prelude.{ℕ, ℤ, ◌+◌, List, [], ◌∷◌, length}
use Rattle.std.specs.List.{range_with_len}
use Rattle.f3_heap_laws.specs.Account.{r}
use Rattle.f3_heap_laws.specs.Segments.{Segment, Used, Free}

-- n words from p on as a run, none where n is 0
abbrev pub run_of : ℕ → ℕ → List (List ℕ)
run_of p zero = []
run_of p (suc n) = range_with_len p (suc n) ∷ []

-- each free block, where the segments begin at p, and then the n words behind them
abbrev pub free_runs : ℕ → List Segment → ℕ → List (List ℕ)
free_runs p [] n = run_of p n
free_runs p (Used ws pins ∷ ss) n = free_runs (p + r (length ws)) ss n
free_runs p (Free junk ∷ ss) n = range_with_len p (length junk + 4) ∷ free_runs (p + (length junk + 4)) ss n
