-- The lines of a procedure, of a routine or of the main program by themselves, and how many cells were noted of them.
use Rattle.std.specs.Prelude.{⊤, ◌≡◌, ◌≤◌, ◌<◌, ◌⊎◌, ℕ, ◌+◌, ◌-◌, ◌*◌, Bool, true, is_none, List, [], ◌∷◌, length, count_by, Option, Some, None, slice_get}
use Rattle.f3_code.specs.declared.instruction.Instruction.{Instruction}
use Rattle.f3_code.specs.declared.instruction.Instruction.TheVariants as i
use Rattle.f3_gen_values.specs.declared.line.Line.{Line}
use Rattle.f3_heights.specs.Effect.{Far, Effect, effect}
use Rattle.f3_heights.specs.Heights.{Leads, IsAt}

-- ---- where lines lead

abbrev pub IntoNext : (ℕ → Type 0) → ℕ → Option ℕ → Type 0
IntoNext Has at None = ⊤
IntoNext Has at (Some left) = Has (at + 1)

abbrev pub IntoFar : (ℕ → Type 0) → ℕ → List Far → Type 0
IntoFar Has at [] = ⊤
IntoFar Has at (x ∷ xs) = Has (at + 1 + x.over) × IntoFar Has at xs

pub record Onward (Has : ℕ → Type 0) (at : ℕ) (e : Effect) : Type 0 where
  pub next : IntoNext Has at e.next
  pub far : IntoFar Has at e.far

-- of each line to which an instruction leads, this is so
abbrev pub LeadsInto : (ℕ → Type 0) → ℕ → Instruction → Type 0
LeadsInto Has at (i.GoBack d) = (d ≤ at) × Has (at - d)
LeadsInto Has at x = Onward Has at (effect x)

-- These lines have heights by themselves, the first one this, and lead to one another alone.
pub record ArePart (height : ℕ → ℕ) (first : ℕ) (lines : List Line) : Type 0 where
  pub some : 0 < length lines
  pub begins : height 0 ≡ first
  pub heights : (k : ℕ) (l : Line) → slice_get lines k ≡ Some l → IsAt height k l.act
  pub stays : (k : ℕ) (l : Line) → slice_get lines k ≡ Some l → LeadsInto (λ j. j < length lines) k l.act

-- ---- what was noted

-- how many cells stand at a line was noted
abbrev pub IsNoted : List (Option ℕ) → ℕ → Type 0
IsNoted hs k = (h : ℕ) × (slice_get hs k ≡ Some (Some h))

-- of how many lines nothing was noted
abbrev pub unnoted : List (Option ℕ) → ℕ
unnoted hs = count_by is_none hs

-- what was noted are the heights; and they are at most two for each line of which something was noted
pub record AreNoted (height : ℕ → ℕ) (hs : List (Option ℕ)) : Type 0 where
  pub right : (k h : ℕ) → slice_get hs k ≡ Some (Some h) → h ≡ height k
  pub few : (k h : ℕ) → slice_get hs k ≡ Some (Some h) → h + 2 * unnoted hs ≤ 2 * length hs

-- what was noted stays
pub record Grows (old new : List (Option ℕ)) : Type 0 where
  pub kept : (k h : ℕ) → slice_get old k ≡ Some (Some h) → slice_get new k ≡ Some (Some h)
  pub fewer : unnoted new ≤ unnoted old

-- of lines up to this one nothing more was noted
abbrev pub IsSameUpTo : ℕ → List (Option ℕ) → List (Option ℕ) → Type 0
IsSameUpTo at old new = (k : ℕ) → k ≤ at → slice_get new k ≡ slice_get old k

-- At a line of which so many cells were noted stands an instruction with this effect, which leads to lines of the part.
pub record IsReady (height : ℕ → ℕ) (hs : List (Option ℕ)) (at cells : ℕ) (e : Effect) : Type 0 where
  pub noted : AreNoted height hs
  pub here : slice_get hs at ≡ Some (Some cells)
  pub leads : Leads height at e
  pub onward : Onward (λ j. j < length hs) at e

-- before this line, where something was noted of a line, something was of those to which it leads
abbrev pub IsClosed : List Line → List (Option ℕ) → ℕ → Type 0
IsClosed lines hs at = (k : ℕ) (l : Line) → k < at → slice_get lines k ≡ Some l → IsNoted hs k → LeadsInto (IsNoted hs) k l.act

-- what was noted of a part so far
pub record IsBegun (height : ℕ → ℕ) (first : ℕ) (lines : List Line) (hs : List (Option ℕ)) : Type 0 where
  pub part : ArePart height first lines
  pub noted : AreNoted height hs
  pub same : length hs ≡ length lines

-- the greatest of what was noted of so many lines, and it was noted, or is 0
pub record IsGreatest (hs : List (Option ℕ)) (upto n : ℕ) : Type 0 where
  pub all : (k h : ℕ) → k < upto → slice_get hs k ≡ Some (Some h) → h ≤ n
  pub met : (n ≡ 0) ⊎ ((k : ℕ) × (slice_get hs k ≡ Some (Some n)))

-- Of a part that begins with so many cells: the greatest height of the lines that ways lead to, whatever its heights are.
pub record IsDepth (lines : List Line) (first n : ℕ) : Type 0 where
  pub reached : ℕ → Bool
  pub begins : reached 0 ≡ true
  pub within : (k : ℕ) → reached k ≡ true → k < length lines
  pub closed : (k : ℕ) (l : Line) → slice_get lines k ≡ Some l → reached k ≡ true → LeadsInto (λ j. reached j ≡ true) k l.act
  pub low : (height : ℕ → ℕ) → ArePart height first lines → (k : ℕ) → reached k ≡ true → height k ≤ n
  pub met : (height : ℕ → ℕ) → ArePart height first lines → (k : ℕ) × (k < length lines) × (n ≤ height k)
  pub few : n ≤ 2 * length lines
