-- What running a program over words answers.
use Rattle.std.specs.Prelude.{⊤, None, ◌⊎◌, ℕ, Bool, [], Result, Ok, Err}
use Rattle.f3_program.specs.declared.program.Program.{Program}
use Rattle.f3_code.specs.Lower.{lowered_program}
use Rattle.f3_live_blocks.specs.Blocks.{Live}
use Rattle.f3_sizes.specs.declared.answer.Needs.{Needs}
use Rattle.f3_sizes.specs.Needs.{AreNotPadded}
use Rattle.f3_output.specs.Output.{State, Wrote}
use Rattle.f3_cells.specs.Cells.{variables_of}
use Rattle.f3_rooms.specs.Forms.{total}
use Rattle.f3_word_cells.specs.Areas.{types_of}
use Rattle.f3_word_cells.specs.States.{statics_of}
use Rattle.f3_word_cells.specs.Plain.{IsPlain}
use Rattle.f3_word_cells.specs.Ranks.{AreRanked}
use Rattle.f3_word_start.specs.Frames.{CanBeFramed}
use Rattle.f3_word_start.specs.Begins.{LacksRoom}
use Rattle.f3_word_needs.specs.Needs.{AreTooMany}
use Rattle.f3_word_machine.specs.declared.ended.Ended.{Ended}
use Rattle.f3_word_machine.specs.Whole.{RunsWhole}
use Rattle.f3_word_run.specs.declared.run.Beyond.{Beyond}
use Rattle.f3_word_run.specs.declared.run.Beyond.TheVariants as beyond

-- a heap that had no room for the variables with which a run begins, those of the whole run and those of the main program
abbrev pub HasNoStart : {H R : Type 0} → (H → Live) → (H → R) → (R → R) → (H → ℕ → Bool) → H → Program → Type 0
HasNoStart blocks kept spent has_room h p = LacksRoom blocks kept spent has_room h (total (types_of p) (statics_of p)) (total (types_of p) (variables_of p None))

-- why a program is not run over words
abbrev pub IsBeyond : Program → Beyond → Type 0
IsBeyond p beyond.NotPlain = (IsPlain p → ⊥) ⊎ (AreRanked p → ⊥)
IsBeyond p beyond.TooLarge = (CanBeFramed p → ⊥) ⊎ ((n : Needs) × AreNotPadded (lowered_program p) n × AreTooMany p n)
IsBeyond p beyond.Memory = ⊤

-- What the answer says of a program that may make so many instructions, and of the output before and now: nothing is written where it is not
-- run.
abbrev pub Answers : (First : Type 0) (Full Spent : Live → ℕ → Type 0) → Program → ℕ → State → State → Result Ended Beyond → Type 0
Answers First Full Spent p steps old new (Ok end) = IsPlain p × RunsWhole First Full Spent p steps old new end
Answers First Full Spent p steps old new (Err beyond) = IsBeyond p beyond × Wrote old new []
