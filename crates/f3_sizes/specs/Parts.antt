-- Parts of code one behind another.
use Rattle.std.specs.Prelude.{◌≡◌, ◌≤◌, ◌<◌, ℕ, ◌+◌, ◌*◌, List, [], ◌∷◌, length, map, sum, take, drop, slice_index, slice_range}
use Rattle.f3_gen_values.specs.declared.line.Line.{Line}
use Rattle.f3_sizes.specs.declared.answer.Needs.{Needs}
use Rattle.f3_sizes.specs.Part.{ArePart, IsDepth}

-- the first of some lines, or the one behind them
abbrev pub first_of : List ℕ → ℕ → ℕ
first_of [] end = end
first_of (at ∷ starts) end = at

-- the line behind a part
abbrev pub behind : List ℕ → ℕ → ℕ → ℕ
behind starts end i = first_of (drop (i + 1) starts) end

abbrev pub part_lines : List Line → List ℕ → ℕ → ℕ → List Line
part_lines lines starts end i = slice_range lines (slice_index starts i) (behind starts end i)

-- From each of these lines to the next, or to the last of them, stands a part.
pub record IsPartAt (lines : List Line) (starts : List ℕ) (end first i : ℕ) : Type 0 where
  pub order : slice_index starts i ≤ behind starts end i
  pub within : behind starts end i ≤ length lines
  pub height : ℕ → ℕ
  pub part : ArePart height first (part_lines lines starts end i)

abbrev pub AreParts : List Line → List ℕ → ℕ → ℕ → Type 0
AreParts lines starts end first = (i : ℕ) → i < length starts → IsPartAt lines starts end first i

-- the greatest heights of so many of these, which are together no more than two for each line
pub record AreDepths (lines : List Line) (starts : List ℕ) (end first upto : ℕ) (ds : List ℕ) : Type 0 where
  pub same : length ds ≡ upto
  pub each : (i : ℕ) → i < upto → IsDepth (part_lines lines starts end i) first (slice_index ds i)
  pub few : sum ds + 2 * first_of starts end ≤ 2 * first_of (drop upto starts) end

-- the line behind the routines, and that behind the main program
abbrev pub behind_routines : List Line → List ℕ → ℕ
behind_routines lines procedures = first_of procedures (length lines)

abbrev pub behind_main : List Line → List ℕ → List ℕ → ℕ
behind_main lines routines procedures = first_of routines (behind_routines lines procedures)

-- The main program, then the routines of types, then the procedures, each a part.
pub record AreCodeParts (lines : List Line) (routines procedures : List ℕ) : Type 0 where
  pub within : behind_main lines routines procedures ≤ length lines
  pub height : ℕ → ℕ
  pub main : ArePart height 0 (take (behind_main lines routines procedures) lines)
  pub of_routines : AreParts lines routines (behind_routines lines procedures) 1
  pub of_procedures : AreParts lines procedures (length lines) 0

-- The greatest heights of these, and what is told: for the main program and for each procedure its own, with those of all routines.
pub record AreAnswers (lines : List Line) (routines procedures : List ℕ) (n : Needs) : Type 0 where
  pub main : ℕ
  pub routine_depths : List ℕ
  pub procedure_depths : List ℕ
  pub depth : IsDepth (take (behind_main lines routines procedures) lines) 0 main
  pub of_routines : AreDepths lines routines (behind_routines lines procedures) 1 (length routines) routine_depths
  pub of_procedures : AreDepths lines procedures (length lines) 0 (length procedures) procedure_depths
  pub answer : n.main ≡ main + sum routine_depths
  pub answers : n.procedures.items ≡ map (λ d. d + sum routine_depths) procedure_depths
