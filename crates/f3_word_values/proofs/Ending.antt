-- How an instruction ends that computes a scalar.
use Rattle.std.proofs.Common.{◌≡◌, ◌∙◌, refl, Bool, ℕ, ◌+◌, List, [], ◌∷◌, sym, ap}
use Rattle.std.specs.Prelude.{⊤, Ok, Err, Result}
use Rattle.f3_program.specs.declared.declarations.Constant.{Constant}
use Rattle.f3_program.specs.declared.declarations.Kind.{Kind}
use Rattle.f3_program.specs.declared.program.Program.{Program}
use Rattle.f3_live_blocks.specs.Blocks.{Live}
use Rattle.f3_meaning_whole.specs.Value.{Value}
use Rattle.f3_meaning_whole.specs.Arithmetic.{constant_value}
use Rattle.f3_meaning_whole.specs.Ran.{Ran, World}
use Rattle.f3_meaning_whole.specs.declared.run_error.RunError.{RunError}
use Rattle.f3_arithmetic.specs.Scalars.{scalar_ran}
use Rattle.f3_code.specs.declared.instruction.Instruction.{Instruction}
use Rattle.f3_code.specs.State.{Line, placed, Next}
use Rattle.f3_code.specs.State as s
use Rattle.f3_code.specs.Machine.{performs, on}
use Rattle.f3_code.specs.Heap.{with_answers}
use Rattle.f3_cell_kinds.specs.Types.{CellType}
use Rattle.f3_cell_kinds.specs.Types as cell
use Rattle.f3_rooms.specs.Rooms.{Rooms}
use Rattle.f3_word_cells.specs.declared.state.State.{State}
use Rattle.f3_word_cells.specs.declared.state.Stop.{Stop}
use Rattle.f3_word_cells.specs.declared.state.Stop.TheVariants as stop
use Rattle.f3_word_cells.specs.States.{Stands}
use Rattle.f3_word_cells.specs.Does.{Becomes}
use Rattle.f3_word_cells.proofs.Amid.{Amid}
use Rattle.f3_word_cells.proofs.Orderly.{IsAfter}
use Rattle.f3_word_cells.proofs.Lines.{performs_gives, performs_fails}
use Rattle.f3_word_control.specs.Operands.{scalar_cell}
use Rattle.f3_word_control.proofs.Lines.{does, goes, stops, goes_with}
use Rattle.f3_word_values.specs.Ends.{Finishes}

module _ (p : Program) (l : Line) (t : s.State) where
  -- a value on these cells
  abbrev pub with_value : (rest : ℕ → Bool) (below : List s.Cell) → Value → World → s.State
  with_value rest below v w = on (with_answers rest t) (s.Datum v ∷ below) w

  -- an instruction that comes to this part of a run
  abbrev pub Computes : Instruction → Ran Value → List s.Cell → Type 0
  Computes x ran below = (rest : ℕ → Bool) → does p l t x rest ≡ performs ran (with_answers rest t).world (with_value rest below)

  pub finished : (m n : Live) (old : State) (x : Rooms) (st : Stands p m old x t) {i : Instruction} {mid : State} (new : State) {k : Kind} {ks : List CellType} (below : List s.Cell)
      (given : Result Constant RunError) (r : Result ⊤ Stop) (ran : Ran Value) → l.act ≡ i → scalar_ran given (placed l.place t.here).place ≡ ran
      → Computes i ran below → Amid p t n old mid x ks below t.world.store [] → mid.pc ≡ old.pc → IsAfter p t.pc (t.pc + 1) (cell.Datum k ∷ ks)
      → Finishes given r mid new → Becomes p l t r n new
  finished m n old x st new below (Ok y) (Ok done) ran is e h amid line kinds ends =
      goes_with p l t m n old x st below (scalar_cell y) (s.Datum (constant_value y))
      (goes p l t is (λ rest. h rest ∙ ap (λ (z : Ran Value). performs z (with_answers rest t).world (with_value rest below)) (sym e)
      ∙ performs_gives (constant_value y) (with_answers rest t).world (with_value rest below))) amid line kinds ends tt refl tt
  finished m n old x st new below (Err error) (Err (stop.Failed f)) ran is e h amid line kinds ends =
      rw ends (stops p l t is (λ rest. h rest ∙ ap (λ (z : Ran Value). performs z (with_answers rest t).world (with_value rest below)) (sym e)
      ∙ performs_fails error (placed l.place t.here).place (with_answers rest t).world (with_value rest below)))
  finished m n old x st new below (Ok y) (Err f) ran is e h amid line kinds ends = absurd ends
  finished m n old x st new below (Err error) (Ok done) ran is e h amid line kinds ends = absurd ends
  finished m n old x st new below (Err error) (Err f) ran is e h amid line kinds ends = absurd ends
