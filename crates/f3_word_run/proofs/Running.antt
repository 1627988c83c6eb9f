-- Runs over words, and why there is none.
use Rattle.std.proofs.Common.{◌≡◌, inl, inr, ℕ, ◌+◌, ◌*◌, ◌≤◌, ◌^◌, ◌⊎◌, Bool, Ok, Err, subst, arith}
use Rattle.f3_program.specs.declared.program.Program.{Program}
use Rattle.f3_live_blocks.specs.Blocks.{Live}
use Rattle.f3_sizes.specs.declared.answer.Needs.{Needs}
use Rattle.f3_rooms.specs.Forms.{total}
use Rattle.f3_output.specs.Output.{State}
use Rattle.f3_output.proofs.Outputs.{wrote_none}
use Rattle.f3_word_cells.specs.declared.scene.Scene.{Scene}
use Rattle.f3_word_cells.specs.Areas.{types_of}
use Rattle.f3_word_cells.specs.States.{statics_of}
use Rattle.f3_word_cells.specs.Plain.{IsPlain}
use Rattle.f3_word_cells.specs.Scenes.{IsScene}
use Rattle.f3_word_start.specs.Begins.{LacksRoom}
use Rattle.f3_word_needs.specs.declared.needs.StackNeeds.{StackNeeds}
use Rattle.f3_word_needs.specs.Needs.{AreTold, AreTooMany}
use Rattle.f3_word_machine.specs.declared.ended.Ended.{Ended}
use Rattle.f3_word_machine.specs.Whole.{RunsWhole}
use Rattle.f3_word_run.specs.declared.run.Beyond.{Beyond}
use Rattle.f3_word_run.specs.Runs.{Answers, HasNoStart, IsBeyond}

-- ---- answers

-- nothing is written where a program is not run
pub not_run : (First : Type 0) (Full Spent : Live → ℕ → Type 0) (p : Program) (steps : ℕ) (a : State) (why : Beyond) → IsBeyond p why → Answers First Full Spent p steps a a (Err why)
not_run First Full Spent p steps a why h = (h, wrote_none)

-- and else it answers what its run over words does
pub ran : {H R : Type 0} (blocks : H → Live) (kept : H → R) (spent : R → R) (has_room : H → ℕ → Bool) (h : H) (Full Spent : Live → ℕ → Type 0) (x : Scene)
    (p : Program) (steps : ℕ) (a b : State) (e : Ended) → x.program.now ≡ p → IsScene x → IsPlain p
    → RunsWhole (LacksRoom blocks kept spent has_room h x.statics.now.words x.main.now.words) Full Spent x.program.now steps a b e
    → Answers (HasNoStart blocks kept spent has_room h p) Full Spent p steps a b (Ok e)
ran blocks kept spent has_room h Full Spent x p steps a b e same scene plain told =
    let q = x.program.now in
    let statics = total (types_of q) (statics_of q) in
    let first = subst (λ (n : ℕ). RunsWhole (LacksRoom blocks kept spent has_room h n x.main.now.words) Full Spent q steps a b e) scene.statics.words told in
    let both = subst (λ (n : ℕ). RunsWhole (LacksRoom blocks kept spent has_room h statics n) Full Spent q steps a b e) scene.main.words first in
    (plain, subst (λ (r : Program). RunsWhole (HasNoStart blocks kept spent has_room h r) Full Spent r steps a b e) same both)

-- ---- too many

-- stacks that would have 2 to the 64 cells or more have too many
pub too_many : (p : Program) (n : Needs) (x : StackNeeds) → AreTold p n x
    → ((2 ^ 64 ≤ x.cells + 2) ⊎ ((2 ^ 64 ≤ x.kept * 2 + 1002) ⊎ (2 ^ 64 ≤ x.levels + 2))) → AreTooMany p n
too_many p n x told (inl h) = inl (let e = told.cells in omega (arith, h, e))
too_many p n x told (inr (inl h)) = inr (inr (let e = told.kept in omega (arith, h, e)))
too_many p n x told (inr (inr h)) = inl (let e = told.levels in omega (arith, h, e))
