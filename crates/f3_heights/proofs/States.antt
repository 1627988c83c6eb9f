-- The states of a run.
use Rattle.std.proofs.Common.{◌≡◌, ℕ, zero, suc, ◌+◌, Bool, List, [], ◌++◌, Some, sym, ap, ◌∙◌, arith, append_assoc}
use Rattle.f3_meaning_whole.specs.Ran.{Event, ◌>>=◌}
use Rattle.f3_meaning_whole.specs.Act.{Setting, claim, enter}
use Rattle.f3_code.specs.Core.{Program}
use Rattle.f3_code.specs.CoreRun.{core_setting, core_here, core_world}
use Rattle.f3_code.specs.State.{Code, State, Course, Next, Goes, Stays}
use Rattle.f3_code.specs.Machine.{before, performs, step, advance, run, course}
use Rattle.f3_code.specs.Run.{start, after}
use Rattle.f3_heights.specs.Room.{state_next, state_run, state_after}

before_before : (a b : List Event) (c : Course) → before a (before b c) ≡ before (a ++ b) c
before_before a b c = let P : List Event → Course = λ l. record { out = l; halt = c.halt } in ap P (sym (append_assoc a b c.out))

module _ (limit : ℕ) (g : Setting) (code : Code) where
  -- so it goes on from there
  abbrev GoesOn : (ℕ → Course) → State → Type 0
  GoesOn c t = (out : List Event) × ((j : ℕ) → c j ≡ before out (run limit g code j t))

  by_next : (x : Next) (k : ℕ) (t : State) → state_next x (state_run limit g code k) ≡ Some t →
      ((u : State) → state_run limit g code k u ≡ Some t → GoesOn (λ j. run limit g code (k + j) u) t) →
      GoesOn (λ j. advance limit g code x (run limit g code (k + j))) t
  by_next (Goes out u) k t e more =
      let m = more u e in
      (out ++ m.0, λ j. ap (before out) (m.1 j) ∙ before_before out m.0 (run limit g code j t))
  by_next (Stays out halt) k t e more = cc

  run_goes : (k : ℕ) (s t : State) → state_run limit g code k s ≡ Some t → GoesOn (λ j. run limit g code (k + j) s) t
  run_goes zero s t e =
      let same : s ≡ t = cc in
      ([], λ j. let n : 0 + j ≡ j = omega arith in ap (λ i. run limit g code i s) n ∙ ap (λ u. run limit g code j u) same)
  run_goes (suc k) s t e =
      let m = by_next (step limit g code s) k t e (λ u e. run_goes k u t e) in
      (m.0, λ j. let n : suc k + j ≡ suc (k + j) = omega arith in ap (λ i. run limit g code i s) n ∙ m.1 j)

  course_goes : (x : Next) (k : ℕ) (t : State) → state_next x (state_run limit g code k) ≡ Some t → GoesOn (λ j. course limit g code x (suc (k + j))) t
  course_goes x k t e = by_next x k t e (λ u e. run_goes k u t e)

pub states_are_of_runs : (limit : ℕ) (p : Program) (code : Code) (answers : ℕ → Bool) (k : ℕ) (s : State) → state_after limit p code answers k ≡ Some s →
    (out : List Event) × ((j : ℕ) → after limit p code answers (suc (k + j)) ≡ before out (run limit (core_setting p) code j s))
unfolding after
states_are_of_runs limit p code answers k s e = course_goes limit (core_setting p) code
    (performs (claim (core_here p) >>= λ done. enter p.main.initial) (core_world p answers) (λ done w. start p w)) k s e
