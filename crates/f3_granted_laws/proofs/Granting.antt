-- The greatest heap is never full, so its machine does what the machine does whose requests are all granted.
use Rattle.std.proofs.Common.{◌≡◌, ℕ, zero, suc, ◌+◌, ◌%◌, ◌^◌, ◌<◌, Bool, false, List, [], ◌++◌, Option, None, Some, refl, sym, ap, ◌∙◌, arith, slice_get}
use Rattle.std.specs.Prelude.{if◌then◌else◌}
use Rattle.std.proofs.Math.Nat.{mod-lt}
use Rattle.std.proofs.lemmas.Bool.Decides.{nat_tests}
use Rattle.f3_meaning_whole.specs.Act.{Setting}
use Rattle.f3_code.specs.State.{Line, placed, Code, State, Next, Goes, Stays}
use Rattle.f3_code.specs.Machine.{act, advance, before, does_line, run, step}
use Rattle.f3_code.specs.Account.{used}
use Rattle.f3_code.specs.Wants.{wants}
use Rattle.f3_code.specs.Heap.{answers_to, granted, heap_does_line, heap_run, heap_step, is_full, refused_once, with_answers}
use Rattle.f3_courses.specs.Courses.{next_by, state_by}
use Rattle.f3_heights.specs.Room.{state_next, state_run}
use Rattle.f3_answers.proofs.Regular.{AllGranted, ahead, ahead_both, ahead_granted, granted_both}
use Rattle.f3_answers.proofs.Steered.{next_with}
use Rattle.f3_answers.proofs.Acting.{line_steered}
use Rattle.f3_granted_laws.specs.Laws.{greatest, RunsAreGranted, StatesAreGranted}

never_full : (used : ℕ) (wanted : Option ℕ) → is_full greatest used wanted ≡ false
never_full used None = refl
never_full used (Some words) =
    let some : 0 < 2 ^ 64 = omega arith in
    let small : (used + words) % 2 ^ 64 < 2 ^ 64 = mod-lt (used + words) some in
    grind (arith, nat_tests)

pub answers_granted : (used : ℕ) (wanted : Option ℕ) → answers_to greatest used wanted ≡ granted
answers_granted used wanted = ap (λ b. if b then refused_once else granted) (never_full used wanted)

module _ (g : Setting) (code : Code) where
  line_is : (o : Option Line) (s : State) → heap_does_line greatest 1000 g code o s ≡ does_line 1000 g code o (with_answers granted s)
  line_is None s = refl
  line_is (Some l) s =
      ap (λ a. act 1000 g code l.act l.value (placed l.place s.here) (with_answers a s)) (answers_granted (used s.world.store) (wants 1000 code l.act l.value s))

  step_is : (s : State) → heap_step greatest 1000 g code s ≡ step 1000 g code (with_answers granted s)
  step_is s = line_is (slice_get code.lines s.pc) s

  -- An instruction asks for some answers, which are granted; it does the same, whatever comes behind them, and leaves that.
  pub asked : (s : State) → (given : List Bool) × AllGranted given × ((a : ℕ → Bool) → step 1000 g code (with_answers (ahead given a) s) ≡ next_with a (heap_step greatest 1000 g code s))
  asked s =
      let t = (line_steered 1000 g code (slice_get code.lines s.pc) s).steer granted in
      (t.0, t.1.granted refl, λ a. t.1.same a ∙ ap (next_with a) (sym (step_is s)))

  -- so it leaves grants, where it has grants
  leaves : (s : State) → heap_step greatest 1000 g code s ≡ next_with granted (heap_step greatest 1000 g code s)
  leaves s =
      let t = asked s in
      step_is s ∙ sym (ap (λ a. step 1000 g code (with_answers a s)) (ahead_granted t.0 t.1)) ∙ t.2 granted

  -- ---- runs

  abbrev state_or : State → Next → State
  state_or s (Goes out t) = t
  state_or s (Stays out halt) = s

  behind : (k : ℕ) → ((s : State) → heap_run greatest 1000 g code k s ≡ run 1000 g code k (with_answers granted s)) → (x : Next) → x ≡ next_with granted x
      → advance 1000 g code x (heap_run greatest 1000 g code k) ≡ advance 1000 g code x (run 1000 g code k)
  behind k more (Goes out t) e = ap (before out) (more t ∙ ap (run 1000 g code k) (sym (ap (state_or t) e)))
  behind k more (Stays out halt) e = refl

  pub runs_are : (k : ℕ) (s : State) → heap_run greatest 1000 g code k s ≡ run 1000 g code k (with_answers granted s)
  runs_are zero s = refl
  runs_are (suc k) s =
      behind k (λ t. runs_are k t) (heap_step greatest 1000 g code s) (leaves s) ∙ ap (λ x. advance 1000 g code x (run 1000 g code k)) (step_is s)

  -- ---- states

  -- the state, where some answers are granted, whatever comes behind them
  abbrev pub Comes : ℕ → State → State → List Bool → Type 0
  Comes n from to given = (rest : ℕ → Bool) → state_run 1000 g code n (with_answers (ahead given rest) from) ≡ Some (with_answers rest to)

  further : (n : ℕ) (to : State) → ((t : State) → state_by greatest g code n t ≡ Some to → (given : List Bool) × AllGranted given × Comes n t to given)
      → (x : Next) → next_by x (state_by greatest g code n) ≡ Some to
      → (given : List Bool) × AllGranted given × ((rest : ℕ → Bool) → state_next (next_with (ahead given rest) x) (state_run 1000 g code n) ≡ Some (with_answers rest to))
  further n to more (Goes out t) e = more t e
  further n to more (Stays out halt) e = cc

  pub states_come : (n : ℕ) (from to : State) → state_by greatest g code n from ≡ Some to → (given : List Bool) × AllGranted given × Comes n from to given
  states_come zero from to e = let same : from ≡ to = cc in ([], tt, λ rest. ap (λ s. Some (with_answers rest s)) same)
  states_come (suc n) from to e =
      let one = asked from in
      let more = further n to (λ t e. states_come n t to e) (heap_step greatest 1000 g code from) e in (
        one.0 ++ more.0,
        granted_both one.0 more.0 one.1 more.1,
        λ rest.
            ap (λ a. state_next (step 1000 g code (with_answers a from)) (state_run 1000 g code n)) (ahead_both one.0 more.0 rest)
            ∙ ap (λ x. state_next x (state_run 1000 g code n)) (one.2 (ahead more.0 rest)) ∙ more.2 rest,
      )

pub runs_are_granted : RunsAreGranted
runs_are_granted g code k s = runs_are g code k s

pub states_are_granted : StatesAreGranted
states_are_granted g code n from to e =
    let c = states_come g code n from to e in
    ap (λ a. state_run 1000 g code n (with_answers a from)) (sym (ahead_granted c.0 c.1)) ∙ c.2 granted
