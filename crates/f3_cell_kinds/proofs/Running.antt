-- The states of runs have cells that hold what their types say, as long as objects stand.
use Rattle.std.proofs.Common.{◌≡◌, ◌∙◌, ap, ℕ, zero, suc, ◌<◌, Bool, List, Some, refl, subst, arith}
use Rattle.f3_program.specs.declared.program.Program.{Program}
use Rattle.f3_meaning_whole.specs.Ran.{Event, End, Gives, Fails, Stops, Beyond, ◌>>=◌}
use Rattle.f3_meaning_whole.specs.Act.{Setting, claim, enter}
use Rattle.f3_meaning_whole.specs.Shape.{shapes_of}
use Rattle.f3_meaning_whole.specs.Formed.{IsWellFormed}
use Rattle.f3_code.specs.Lower.{lowered_program}
use Rattle.f3_code.specs.CoreRun.{core_setting, core_here, core_world}
use Rattle.f3_code.specs.State as state
use Rattle.f3_code.specs.State.{Line, Code, State, Next, Goes}
use Rattle.f3_code.specs.Machine.{ends_so, step}
use Rattle.f3_code.specs.Run.{start}
use Rattle.f3_code.specs.Code.{program_code}
use Rattle.f3_heights.specs.Room.{state_next, state_run, state_after}
use Rattle.f3_cell_kinds.specs.Types.{Site}
use Rattle.f3_cell_kinds.specs.Kinds.{AreKinds}
use Rattle.f3_cell_kinds.specs.Holds.{Fits}
use Rattle.f3_cell_kinds.specs.Sense.{MakesSense}
use Rattle.f3_cell_kinds.specs.Stands.{Stands}
use Rattle.f3_cell_kinds.specs.Laws.{site_at}
use Rattle.f3_cell_kinds.proofs.OfProgram.{code_has_kinds}
use Rattle.f3_cell_kinds.proofs.Starting.{start_fits}
use Rattle.f3_cell_kinds.proofs.ReadingSteps.{standing_steps_hold}

module _ (limit : ℕ) (g : Setting) (p : Program) (code : Code) (sites : ℕ → Site) (are : AreKinds p sites code) (formed : IsWellFormed p) (sense : MakesSense p)
    (types_same : g.program.types.items ≡ p.types.items) (statics_same : g.program.statics.items ≡ p.statics.items) (shapes_same : g.shapes ≡ shapes_of p.types.items) where
  one_step : (s t : State) (out : List Event) → Stands p sites s → Fits p.types.items sites s → step limit g code s ≡ Goes out t → Fits p.types.items sites t
  one_step s t out stands h e = standing_steps_hold limit g p code sites are formed sense types_same statics_same shapes_same s t out h stands e

  run_fits : (k : ℕ) (s t : State) → ((j : ℕ) (u : State) → j < k → state_run limit g code j s ≡ Some u → Stands p sites u) → Fits p.types.items sites s →
      state_run limit g code k s ≡ Some t → Fits p.types.items sites t
  run_fits zero s t steady h e = let same : s ≡ t = cc in subst (λ u. Fits p.types.items sites u) same h
  run_fits (suc k) s t steady h e = by_next (step limit g code s) refl e (λ u more h e. run_fits k u t more h e)
    where
      by_next : (x : Next) → step limit g code s ≡ x → state_next x (state_run limit g code k) ≡ Some t →
          ((u : State) → ((j : ℕ) (v : State) → j < k → state_run limit g code j u ≡ Some v → Stands p sites v) → Fits p.types.items sites u →
          state_run limit g code k u ≡ Some t → Fits p.types.items sites t) → Fits p.types.items sites t
      by_next (Goes out u) is e go = go u
          (λ j v less f. steady (suc j) v (omega (arith, less)) (ap (λ x. state_next x (state_run limit g code j)) is ∙ f))
          (one_step s u out (steady 0 s (omega arith) refl) h is) e
      by_next (state.Stays out halt) is e go = cc

pub runs_hold : (limit : ℕ) (p : Program) → IsWellFormed p → MakesSense p → (answers : ℕ → Bool) (k : ℕ) (s : State) →
    ((j : ℕ) (t : State) → j < k → state_after limit (lowered_program p) (program_code (lowered_program p)) answers j ≡ Some t →
    Stands p (site_at p) t) →
    state_after limit (lowered_program p) (program_code (lowered_program p)) answers k ≡ Some s → Fits p.types.items (site_at p) s
runs_hold limit p formed sense answers k s steady e =
    let q = lowered_program p in
    let r = (claim (core_here q) >>= λ done. enter q.main.initial).from (core_world q answers) in by_end r.out r.end steady e
  where
    by_end : {A : Type 0} (out : List Event) (end : End A) →
        ((j : ℕ) (t : State) → j < k → state_next (ends_so out end (λ done w. start (lowered_program p) w))
        (state_run limit (core_setting (lowered_program p)) (program_code (lowered_program p)) j) ≡ Some t → Stands p (site_at p) t) →
        state_next (ends_so out end (λ done w. start (lowered_program p) w)) (state_run limit (core_setting (lowered_program p)) (program_code (lowered_program p)) k) ≡ Some s →
        Fits p.types.items (site_at p) s
    by_end out (Gives x w) steady e = run_fits limit (core_setting (lowered_program p)) p (program_code (lowered_program p)) (site_at p) (code_has_kinds p formed sense).1 formed sense refl refl refl
        k (start (lowered_program p) w) s steady (start_fits p formed sense w) e
    by_end out (Fails error place) steady e = cc
    by_end out (Stops code) steady e = cc
    by_end out Beyond steady e = cc
