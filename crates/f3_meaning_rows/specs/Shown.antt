-- What a run shows.
use Rattle.std.specs.Prelude.{⊤, ℕ, suc, Bool, true, false, nat_eq, if◌then◌else◌, List, [], ◌∷◌, ◌++◌, Option, flat_map}
use Rattle.f3_meaning_whole.specs.Error.{error_number}
use Rattle.f3_meaning_whole.specs.Ran.{End, Gives, Fails, Stops, Beyond, Outcome}
use Rattle.f3_meaning_whole.specs.Run.{output}

pub data Verdict : Type 0 where
  Finished : Verdict
  Failed : (number line column : ℕ) → Verdict
  Stopped : Option ℕ → Verdict
  Unfinished : Verdict

abbrev pub verdict_of : End ⊤ → Verdict
verdict_of (Gives x w) = Finished
verdict_of (Fails error place) = Failed (error_number error) place.line place.column
verdict_of (Stops code) = Stopped code
verdict_of Beyond = Unfinished

-- the bytes that are printed, and how the run ends
pub record Shown : Type 0 where
  pub bytes : List ℕ
  pub verdict : Verdict

abbrev pub shown : Outcome ⊤ → Shown
shown o = record { bytes = output o.out; verdict = verdict_of o.end }

-- each line with its line feed
abbrev pub lines : List (List ℕ) → List ℕ
lines ls = flat_map (λ l. l ++ 10 ∷ []) ls

-- a heap that grants all
abbrev pub granted : ℕ → Bool
granted i = false

-- a heap that refuses what it is asked for as the first, second and so on of these numbers
abbrev pub refusing : List ℕ → ℕ → Bool
refusing [] i = false
refusing (n ∷ ns) i = if nat_eq n (suc i) then true else refusing ns i
