-- How much room stacks want, as it is told.
use Rattle.std.specs.Prelude.{◌≡◌, ◌≤◌, ◌⊎◌, ◌^◌, ℕ, ◌+◌, ◌*◌, length}
use Rattle.f3_program.specs.declared.program.Program.{Program}
use Rattle.f3_code.specs.Lower.{lowered_program}
use Rattle.f3_code.specs.State.{State}
use Rattle.f3_heights.specs.Room.{all_cells, greatest}
use Rattle.f3_sizes.specs.declared.answer.Needs.{Needs}
use Rattle.f3_word_cells.specs.Does.{IsTold}
use Rattle.f3_word_needs.specs.declared.needs.StackNeeds.{StackNeeds}
use Rattle.f3_word_needs.specs.Counts.{all_levels, all_names, all_selectors}
use Rattle.f3_word_needs.specs.Names.{most_dummies, most_names, most_open}
use Rattle.f3_word_needs.specs.Room.{HasRoom}

-- those of the main program, and the greatest of a procedure for each caller
abbrev pub cells_need : Needs → ℕ
cells_need n = n.main + 1000 * greatest n.procedures.items

-- the most names for each activation
abbrev pub names_room : Program → ℕ
names_room p = 1001 * most_names (lowered_program p)

-- the most dummies for each caller, and the most names of ASSOCIATEs for each activation
abbrev pub kept_room : Program → ℕ
kept_room p = 1000 * most_dummies (lowered_program p).procedures + 1001 * most_open (lowered_program p)

-- no more than this can be told
abbrev pub AreTooMany : Program → Needs → Type 0
AreTooMany p n = (2 ^ 48 ≤ cells_need n) ⊎ ((2 ^ 48 ≤ names_room p) ⊎ (2 ^ 48 ≤ kept_room p))

-- So much is told, and no more.
pub record AreTold (p : Program) (n : Needs) (x : StackNeeds) : Type 0 where
  pub cells : x.cells ≡ cells_need n
  pub names : x.names ≡ names_room p
  pub kept : x.kept ≡ kept_room p
  pub levels : x.levels ≡ 2001 + cells_need n

-- In a state there are no more than this. No procedure has more dummies than `dummies`.
pub record IsEnough (dummies : ℕ) (x : StackNeeds) (t : State) : Type 0 where
  pub cells : all_cells t ≤ x.cells
  pub names : all_names t ≤ x.names
  pub kept : length t.frames * dummies + all_selectors t ≤ x.kept
  pub levels : all_levels t ≤ x.levels
  pub callers : length t.frames ≤ 1000

-- So in each state of each run.
abbrev pub AreEnough : Program → StackNeeds → Type 0
AreEnough p x = (t : State) → IsTold p t → HasRoom p t → IsEnough (most_dummies (lowered_program p).procedures) x t
