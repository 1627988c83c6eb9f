-- What was seen of the values so far.
use Rattle.std.specs.Prelude.{◌≡◌, ℤ, pos, negsuc, Bool, true, false, List, [], ◌∷◌, Option, Some, unwrap_or, FitsSigned}
use Rattle.std.specs.Int.{w64}
use Rattle.std.specs.List.{list_any}
use Rattle.f3_type_rules.specs.Cases.{Span, no_span, numbers, truths, meets}
use Rattle.f3_cases.specs.Inner.Ranges.{Rising, Reaches}

-- without an end, the least and the greatest number that there is in memory
abbrev pub low_end : Option ℤ → ℤ
low_end a = unwrap_or a (negsuc 9223372036854775807)

abbrev pub high_end : Option ℤ → ℤ
high_end b = unwrap_or b (pos 9223372036854775807)

-- its ends are numbers that there are in memory
abbrev pub IsStored : Span → Type 0
IsStored no_span = Unit {0}
IsStored (numbers a b) = FitsSigned w64 (low_end a) × FitsSigned w64 (high_end b)
IsStored (truths b) = Unit {0}

abbrev pub AreStored : List Span → Type 0
AreStored [] = Unit {0}
AreStored (s ∷ ss) = IsStored s × AreStored ss

abbrev pub meets_between : ℤ → ℤ → List Span → Bool
meets_between z y spans = list_any (meets (numbers (Some z) (Some y))) spans

-- of these spans, the ranges in a map and two flags tell what meets one of them
pub record Sees (spans : List Span) (g : ℤ → Option ℤ) (t f : Bool) : Type 0 where
  pub stored : AreStored spans
  pub rising : Rising g
  pub reached : (z y : ℤ) → FitsSigned w64 z → FitsSigned w64 y → Reaches g z y → meets_between z y spans ≡ true
  pub met : (z y : ℤ) → FitsSigned w64 z → FitsSigned w64 y → meets_between z y spans ≡ true → Reaches g z y
  pub truth : t ≡ list_any (meets (truths true)) spans
  pub falsehood : f ≡ list_any (meets (truths false)) spans
