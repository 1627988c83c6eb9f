-- The order of breaks, and the first of them (own rule: by phase, then place, then the order of the table).
use Rattle.std.specs.Prelude.{◌≡◌, ℕ, List, [], ◌∷◌, Bool, true, false, Option, None, Some, nat_lt, ◌||◌, ◌&&◌, ◌==◌, if◌then◌else◌, Contains}
use Rattle.f3_rules.specs.declared.breaks.Break.{Break}
use Rattle.f3_rules.specs.Rule.{row_of}

-- what decides: the phase, then source, line and column, then the row of the table
abbrev pub rank : Break → List ℕ
rank b = b.phase ∷ b.place.file ∷ b.place.line ∷ b.place.column ∷ row_of b.rule ∷ []

-- one list of numbers comes before another: less at the first difference
abbrev pub before : List ℕ → List ℕ → Bool
before [] [] = false
before [] (y ∷ ys) = true
before (x ∷ xs) [] = false
before (x ∷ xs) (y ∷ ys) = nat_lt x y || ((x == y) && before xs ys)

unfoldable pub is_before : Break → Break → Bool
is_before a b = before (rank a) (rank b)

-- the earlier of two, where there are any
abbrev pub earlier_of : Option Break → Option Break → Option Break
earlier_of None b = b
earlier_of (Some x) None = Some x
earlier_of (Some x) (Some y) = if is_before y x then Some y else Some x

-- the first of a list of breaks
abbrev pub first_of : List Break → Option Break
first_of [] = None
first_of (b ∷ bs) = earlier_of (Some b) (first_of bs)

abbrev pub LeastAs : Option Break → (Break → Type 0) → Type 0
LeastAs None P = (b : Break) → P b → ⊥
LeastAs (Some f) P = P f × ((b : Break) → P b → is_before b f ≡ false)

-- what was found is the least of the breaks that are such, or there is none
pub record Least (found : Option Break) (P : Break → Type 0) : Type 0 where
  pub as_said : LeastAs found P

-- the first of a list is the least of what is in it
abbrev pub FirstIsLeast : Type 0
FirstIsLeast = (bs : List Break) → Least (first_of bs) (Contains bs)
