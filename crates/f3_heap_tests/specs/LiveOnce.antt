-- Names of live blocks, each once.
use Rattle.std.specs.Prelude.{ℕ, ◌≢◌, List, [], ◌∷◌}
use Rattle.f3_live_blocks.specs.Blocks.{Live, IsLive}

abbrev pub IsNoneOf : ℕ → List ℕ → Type 0
IsNoneOf b [] = Unit {0}
IsNoneOf b (c ∷ cs) = (c ≢ b) × IsNoneOf b cs

abbrev pub LiveOnce : Live → List ℕ → Type 0
LiveOnce m [] = Unit {0}
LiveOnce m (b ∷ bs) = IsLive m b × IsNoneOf b bs × LiveOnce m bs
