-- Each state of each run has cells of the sorts that are told.
use Rattle.std.proofs.Common.{◌≡◌, ℕ, zero, suc, Bool, List, [], Some, refl, sym, ◌∙◌, subst}
use Rattle.std.specs.Prelude.{slice_index_or}
use Rattle.f3_meaning_whole.specs.Ran.{Event, World, End, Gives, Fails, Stops, Beyond, ◌>>=◌}
use Rattle.f3_meaning_whole.specs.Act.{Setting, claim, enter}
use Rattle.f3_code.specs.Core as c
use Rattle.f3_code.specs.CoreRun.{core_setting, core_here, core_world}
use Rattle.f3_code.specs.State as state
use Rattle.f3_code.specs.State.{Code, State, Next, Goes}
use Rattle.f3_code.specs.Machine.{ends_so, step}
use Rattle.f3_code.specs.Run.{start}
use Rattle.f3_code.specs.Code.{program_code}
use Rattle.f3_code.specs.Heap.{with_answers, heap_step}
use Rattle.f3_heights.specs.Room.{state_next, state_run, state_after}
use Rattle.f3_heights.proofs.OnHeap.{heap_answers}
use Rattle.f3_sorts.specs.Effect.{Sort}
use Rattle.f3_sorts.specs.Sorts.{AreSorts, Fits, Stand}
use Rattle.f3_sorts.specs.Program.{program_sorts}
use Rattle.f3_sorts.proofs.Stepping.{steps_fit}
use Rattle.f3_sorts.proofs.OfProgram.{code_has_sorts, program_starts}

module _ (limit : ℕ) (g : Setting) (code : Code) (sorts : ℕ → List Sort) (are : AreSorts sorts code) where
  run_fits : (k : ℕ) (s t : State) → Fits sorts s → state_run limit g code k s ≡ Some t → Fits sorts t
  run_fits zero s t h e = let same : s ≡ t = cc in subst (λ u. Fits sorts u) same h
  run_fits (suc k) s t h e = by_next (step limit g code s) refl e (λ u h e. run_fits k u t h e)
    where
      by_next : (x : Next) → step limit g code s ≡ x → state_next x (state_run limit g code k) ≡ Some t →
          ((u : State) → Fits sorts u → state_run limit g code k u ≡ Some t → Fits sorts t) → Fits sorts t
      by_next (Goes out u) is e more = more u (steps_fit limit g code sorts are s u out h is) e
      by_next (state.Stays out halt) is e more = cc

module _ (p : c.Program) where
  abbrev at_lines : ℕ → List Sort
  at_lines pc = slice_index_or (program_sorts p) pc []

  start_fits : (w : World) → Fits at_lines (start p w)
  start_fits w = record { stack = subst (λ l. Stand at_lines l []) (sym (program_starts p)) tt; frames = tt }

pub runs_fit : (limit : ℕ) (p : c.Program) (answers : ℕ → Bool) (k : ℕ) (s : State) → state_after limit p (program_code p) answers k ≡ Some s →
    Fits (λ pc. slice_index_or (program_sorts p) pc []) s
runs_fit limit p answers k s e =
    let r = (claim (core_here p) >>= λ done. enter p.main.initial).from (core_world p answers) in by_end r.out r.end e
  where
    by_end : {A : Type 0} (out : List Event) (end : End A) →
        state_next (ends_so out end (λ done w. start p w)) (state_run limit (core_setting p) (program_code p) k) ≡ Some s → Fits (at_lines p) s
    by_end out (Gives x w) e = run_fits limit (core_setting p) (program_code p) (at_lines p) (code_has_sorts p).1 k (start p w) s (start_fits p w) e
    by_end out (Fails error place) e = cc
    by_end out (Stops code) e = cc
    by_end out Beyond e = cc

pub heap_steps_fit : (size limit : ℕ) (g : Setting) (code : Code) (sorts : ℕ → List Sort) → AreSorts sorts code → (s t : State) (out : List Event) →
    Fits sorts s → heap_step size limit g code s ≡ Goes out t → Fits sorts t
heap_steps_fit size limit g code sorts are s t out h e =
    let a = heap_answers size limit g code s in
    let there : Fits sorts (with_answers a.0 s) = record { stack = h.stack; frames = h.frames } in
    steps_fit limit g code sorts are (with_answers a.0 s) t out there (sym a.1 ∙ e)
