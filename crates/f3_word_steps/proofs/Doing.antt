-- What an instruction does, by what its call says.
use Rattle.std.proofs.Common.{◌≡◌, ◌∙◌, ℕ, true, false, sym}
use Rattle.std.specs.Prelude.{⊤, Result}
use Rattle.std.proofs.lemmas.Bool.{true≢false}
use Rattle.f3_places.specs.declared.source.Place.{Place}
use Rattle.f3_code.specs.declared.instruction.Instruction.{Instruction}
use Rattle.f3_word_cells.specs.declared.state.State.{State}
use Rattle.f3_word_cells.specs.declared.state.Stop.{Stop}
use Rattle.f3_word_cells.specs.Does.{Does}
use Rattle.f3_word_control.specs.Doing.{DoesAmong, DoesThere}
use Rattle.f3_word_steps.specs.Cells.{DoesCells, is_cells_act}

module _ (act : Instruction) (place : Place) (total : ℕ) (old new : State) (r : Result ⊤ Stop) where
  pub by_does : (i : Instruction) → act ≡ i → Does i r old new → DoesCells place total act r old new
  by_does i is d = λ p live size t l x told there acts at stands. d p live t l x told there (acts ∙ is) stands

  pub by_there : (i : Instruction) → act ≡ i → DoesThere place i r old new → DoesCells place total act r old new
  by_there i is d = λ p live size t l x told there acts at stands. d p live t l x told there (acts ∙ is) at stands

  pub by_among : (i : Instruction) → act ≡ i → DoesAmong total i r old new → DoesCells place total act r old new
  by_among i is d = λ p live size t l x told there acts at stands. d p live size t l x told there (acts ∙ is) stands

  -- no other is meant
  pub not_cells : is_cells_act act ≡ false → is_cells_act act ≡ true → DoesCells place total act r old new
  not_cells other one = absurd (true≢false (sym one ∙ other))
