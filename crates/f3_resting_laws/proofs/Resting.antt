-- States of a run of a program that lends nothing.
use Rattle.std.proofs.Common.{◌≡◌, ◌∙◌, ℕ, zero, suc, ◌≤◌, List, [], ◌∷◌, ◌++◌, length, length-append, Option, None, Some, refl, ap, subst, sym, arith}
use Rattle.std.specs.Prelude.{slice_get}
use Rattle.f3_program.specs.declared.program.Program.{Program}
use Rattle.f3_meaning_whole.specs.Act.{Setting, claim, enter}
use Rattle.f3_meaning_whole.specs.Ran.{Event, End, Gives, Fails, Stops, Beyond, ◌>>=◌}
use Rattle.f3_code.specs.CoreRun.{core_setting, core_here, core_world}
use Rattle.f3_code.specs.declared.instruction.Instruction.{Instruction}
use Rattle.f3_code.specs.declared.instruction.Instruction.TheVariants as i
use Rattle.f3_code.specs.Heap.{with_answers}
use Rattle.f3_code.specs.Lower.{lowered_program}
use Rattle.f3_code.specs.Machine.{does_line, ends_so, step}
use Rattle.f3_code.specs.Run.{start}
use Rattle.f3_code.specs.State as state
use Rattle.f3_code.specs.State.{Cell, Code, Goes, Line, Next, Outside, State, To}
use Rattle.f3_heights.specs.Room.{state_next, state_run}
use Rattle.f3_heights.proofs.OnHeap.{heap_answers}
use Rattle.f3_sorts.specs.Effect.{Sort}
use Rattle.f3_sorts.specs.Effect as sort
use Rattle.f3_sorts.specs.Sorts.{Fits, IsAt, Stand}
use Rattle.f3_sorts.proofs.OfProgram.{code_has_sorts, program_starts}
use Rattle.f3_sorts.proofs.Stepping.{steps_fit}
use Rattle.f3_cell_kinds.proofs.Sorting.{kinds_have_sorts}
use Rattle.f3_store_kinds.specs.Clean.{ArePlain, IsClean, IsPlain}
use Rattle.f3_store_kinds.proofs.Running.{code_is_clean}
use Rattle.f3_resting_laws.specs.Rests.{LendsNothing, Rests}
use Rattle.f3_resting_laws.specs.Laws.{HeapStepsKeepRest, LinesKeepRest, RunsRest, StepsKeepRest, code_of, sorts_of}
use Rattle.f3_resting_laws.proofs.Acting.{IsSmooth, NoneOpen, line_keeps}

-- ---- cells that go by themselves

none_more : (n : ℕ) (c : Cell) (st : List Cell) → NoneOpen 1 (c ∷ []) → NoneOpen n st → NoneOpen (suc n) (c ∷ st)
none_more n (Outside outer) st one h = absurd one
none_more n c st one h = h

plain_cell : (x : Sort) (c : Cell) → IsPlain x → sort.sort_of c ≡ Some x → NoneOpen 1 (c ∷ [])
plain_cell x (Outside outer) h is = let same : x ≡ sort.Outside = cc in subst IsPlain same h
plain_cell x c h is = tt

plain_cells : (sorts : ℕ → List Sort) (n : ℕ) (xs : List Sort) (stack : List Cell) → n ≤ length xs → ArePlain n xs → Stand sorts xs stack → NoneOpen n stack
plain_cells sorts zero xs stack le h s = tt
plain_cells sorts (suc n) [] stack le h s = absurd (omega (arith, le))
plain_cells sorts (suc n) (x ∷ xs) [] le h s = tt
plain_cells sorts (suc n) (x ∷ xs) (c ∷ stack) le h s = none_more n c stack (plain_cell x c h.0 s.0) (plain_cells sorts n xs stack (omega (arith, le)) h.1 s.1)

module _ (p : Program) (s : State) (fits : Fits (sorts_of p) s) where
  taken : (n : ℕ) (xs rest : List Sort) → sorts_of p s.pc ≡ xs ++ rest → length xs ≡ n → ArePlain n (sorts_of p s.pc) → NoneOpen n s.stack
  taken n xs rest e m h =
      let many : length (sorts_of p s.pc) ≡ length (xs ++ rest) = ap (λ (l : List Sort). length l) e in
      plain_cells (sorts_of p) n (sorts_of p s.pc) s.stack (omega (arith, many, m, length-append xs rest)) h fits.stack

  is_smooth : (x : Instruction) → IsAt (sorts_of p) s.pc x → IsClean x (sorts_of p s.pc) → IsSmooth x s.stack
  is_smooth i.Drop (x, b) h = taken 1 (x ∷ []) b.rest b.before refl h
  is_smooth i.Swap (x, y, b) h = taken 2 (x ∷ y ∷ []) b.rest b.before refl h
  is_smooth (i.Unwind n) (xs, many, b) h = taken n xs b.rest b.before many h
  is_smooth x b h = tt

pub lines_keep_rest : LinesKeepRest
lines_keep_rest limit g p s t l out at calm fits goes rests =
    let clean : IsClean l.act (sorts_of p s.pc) = subst (IsClean l.act) (kinds_have_sorts p s.pc) (code_is_clean p s.pc l at) in
    line_keeps limit g (code_of p) l s t out (is_smooth p s fits l.act ((code_has_sorts (lowered_program p)).1.lines s.pc l at) clean) calm goes rests

-- ---- steps

pub steps_keep_rest : StepsKeepRest
steps_keep_rest limit g p s t out calm fits goes rests = at_line (slice_get (code_of p).lines s.pc) refl goes
  where
    at_line : (l : Option Line) → slice_get (code_of p).lines s.pc ≡ l → does_line limit g (code_of p) l s ≡ Goes out t → Rests t
    at_line None at is = cc
    at_line (Some l) at is = lines_keep_rest limit g p s t l out at (calm s.pc l at) fits is rests

pub heap_steps_keep_rest : HeapStepsKeepRest
heap_steps_keep_rest size limit g p s t out calm fits goes rests =
    let a = heap_answers size limit g (code_of p) s in
    steps_keep_rest limit g p (with_answers a.0 s) t out calm (record { stack = fits.stack; frames = fits.frames }) (sym a.1 ∙ goes)
    (record { lent = rests.lent; selected = rests.selected })

-- ---- runs

module _ (limit : ℕ) (g : Setting) (p : Program) (calm : LendsNothing (code_of p)) where
  run_rests : (k : ℕ) (s t : State) → Fits (sorts_of p) s → Rests s → state_run limit g (code_of p) k s ≡ Some t → Rests t
  run_rests zero s t fits h e = let same : s ≡ t = cc in subst Rests same h
  run_rests (suc k) s t fits h e = by_next (step limit g (code_of p) s) refl e (λ u more h e. run_rests k u t more h e)
    where
      by_next : (x : Next) → step limit g (code_of p) s ≡ x → state_next x (state_run limit g (code_of p) k) ≡ Some t
          → ((u : State) → Fits (sorts_of p) u → Rests u → state_run limit g (code_of p) k u ≡ Some t → Rests t) → Rests t
      by_next (Goes out u) is e go = go u
          (steps_fit limit g (code_of p) (sorts_of p) (code_has_sorts (lowered_program p)).1 s u out fits is)
          (steps_keep_rest limit g p s u out calm fits is h) e
      by_next (state.Stays out halt) is e go = cc

pub runs_rest : RunsRest
runs_rest limit p calm answers k s e =
    let q = lowered_program p in
    let r = (claim (core_here q) >>= λ done. enter q.main.initial).from (core_world q answers) in by_end r.out r.end e
  where
    by_end : {A : Type 0} (out : List Event) (end : End A)
        → state_next (ends_so out end (λ done w. start (lowered_program p) w)) (state_run limit (core_setting (lowered_program p)) (code_of p) k) ≡ Some s → Rests s
    by_end out (Gives x w) e =
        run_rests limit (core_setting (lowered_program p)) p calm k (start (lowered_program p) w) s
        (record { stack = subst (λ l. Stand (sorts_of p) l []) (sym (program_starts (lowered_program p))) tt; frames = tt }) (record { lent = refl; selected = refl }) e
    by_end out (Fails error place) e = cc
    by_end out (Stops code) e = cc
    by_end out Beyond e = cc
