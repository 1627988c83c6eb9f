-- The run of a program over the greatest heap, and its states.
use Rattle.std.proofs.Common.{◌≡◌, ℕ, zero, suc, ◌+◌, Bool, false, List, [], ◌∷◌, ◌++◌, Some, refl, sym, ap, ◌∙◌, arith}
use Rattle.std.proofs.Math.Path.{fun_ext}
use Rattle.f3_meaning_whole.specs.Ran.{◌>>=◌, Entered, asks, does, gives}
use Rattle.f3_meaning_whole.specs.Act.{Setting, claim, enter}
use Rattle.f3_code.specs.Core.{Program}
use Rattle.f3_code.specs.CoreRun.{core_here, core_setting, core_world}
use Rattle.f3_code.specs.State.{Code, Goes, Next, State, Stays}
use Rattle.f3_code.specs.Machine.{advance, before, performs, run, step}
use Rattle.f3_code.specs.Run.{after, start}
use Rattle.f3_code.specs.Account.{block, level_words, used}
use Rattle.f3_code.specs.Heap.{granted, heap_after, heap_first, heap_run, with_answers}
use Rattle.f3_courses.specs.Courses.{at_line}
use Rattle.f3_courses.specs.Runs.{main_of, store_at_first}
use Rattle.f3_heights.specs.Room.{state_after, state_next, state_run}
use Rattle.f3_answers.proofs.Regular.{ahead}
use Rattle.f3_granted_laws.specs.Laws.{greatest, stream, ProgramsAreGranted, StartIsOfTheRun, StatesFollow, ToldStatesFollow}
use Rattle.f3_granted_laws.proofs.Granting.{answers_granted, runs_are, states_come}

-- the first instruction, with these answers
abbrev first_with : Program → (ℕ → Bool) → Next
first_with p answers = performs (claim (core_here p) >>= λ done. enter p.main.initial) (core_world p answers) (λ done w. start p w)

first_goes : (p : Program) (rest : ℕ → Bool) → first_with p (stream (false ∷ []) rest) ≡ Goes (Entered p.main.initial ∷ []) (with_answers rest (at_line (main_of p) 0 []))
unfolding ◌>>=◌ asks gives does
first_goes p rest = refl

granted_goes : (p : Program) → first_with p granted ≡ Goes (Entered p.main.initial ∷ []) (at_line (main_of p) 0 [])
unfolding ◌>>=◌ asks gives does
granted_goes p = refl

first_is : (p : Program) → heap_first greatest p ≡ first_with p granted
first_is p = ap (first_with p) (answers_granted (used (store_at_first p)) (Some (block (level_words p.main.initial))))

pub programs_are_granted : ProgramsAreGranted
unfolding after heap_after
programs_are_granted p code zero = refl
programs_are_granted p code (suc k) =
    let goes = granted_goes p in
    ap (λ x. advance 1000 (core_setting p) code x (heap_run greatest 1000 (core_setting p) code k)) (first_is p ∙ goes)
    ∙ ap (before (Entered p.main.initial ∷ [])) (runs_are (core_setting p) code k (at_line (main_of p) 0 []))
    ∙ sym (ap (λ x. advance 1000 (core_setting p) code x (run 1000 (core_setting p) code k)) goes)

pub start_is_of_the_run : StartIsOfTheRun
start_is_of_the_run p code = (
  ap (λ x. state_next x (state_run 1000 (core_setting p) code 0)) (granted_goes p),
  record { lines = 0; given = false ∷ []; comes = λ rest. ap (λ x. state_next x (state_run 1000 (core_setting p) code 0)) (first_goes p rest) },
)

-- ---- answers one behind the other

streams : (bs cs : List Bool) (rest : ℕ → Bool) (n : ℕ) → stream (bs ++ cs) rest n ≡ stream bs (ahead cs rest) n
streams [] [] rest n = refl
streams [] (c ∷ cs) rest zero = refl
streams [] (c ∷ cs) rest (suc n) = streams [] cs rest n
streams (b ∷ bs) cs rest zero = refl
streams (b ∷ bs) cs rest (suc n) = streams bs cs rest n

-- ---- states one behind the other

module _ (g : Setting) (code : Code) (n : ℕ) (t u : State) where
  behind : (k : ℕ) (x : Next) → ((s : State) → state_run 1000 g code k s ≡ Some t → state_run 1000 g code (k + n) s ≡ Some u)
      → state_next x (state_run 1000 g code k) ≡ Some t → state_next x (state_run 1000 g code (k + n)) ≡ Some u
  behind k (Goes out s) more e = more s e
  behind k (Stays out halt) more e = cc

  both : state_run 1000 g code n t ≡ Some u → (k : ℕ) (s : State) → state_run 1000 g code k s ≡ Some t → state_run 1000 g code (k + n) s ≡ Some u
  both last zero s e =
      let same : s ≡ t = cc in
      let all : 0 + n ≡ n = omega arith in
      ap (λ i. state_run 1000 g code i s) all ∙ ap (state_run 1000 g code n) same ∙ last
  both last (suc k) s e =
      let all : suc k + n ≡ suc (k + n) = omega arith in
      ap (λ i. state_run 1000 g code i s) all ∙ behind k (step 1000 g code s) (both last k) e

pub states_follow : StatesFollow
states_follow p code n from to r e =
    let c = states_come (core_setting p) code n from to e in record {
      lines = r.lines + n;
      given = r.given ++ c.0;
      comes = λ rest.
          let middle = with_answers (ahead c.0 rest) from in
          let last = with_answers rest to in
          let more = both (core_setting p) code n middle last (c.2 rest) r.lines in
          ap (λ a. state_after 1000 p code a (r.lines + n)) (fun_ext (streams r.given c.0 rest))
          ∙ behind (core_setting p) code n middle last r.lines (first_with p (stream r.given (ahead c.0 rest))) more (r.comes (ahead c.0 rest));
    }

pub told_states_follow : ToldStatesFollow
told_states_follow p code n from to bytes r t = states_follow p code n from to r t.comes
