-- Parts of runs.
use Rattle.std.proofs.Common.{◌≡◌, ℕ, zero, suc, ◌+◌, Bool, true, false, List, [], ◌∷◌, ◌++◌, refl, sym, ap, ◌∙◌, arith, append_assoc}
use Rattle.std.specs.Prelude.{Some}
use Rattle.std.proofs.Math.Path.{fun_ext}
use Rattle.f3_program.specs.declared.program.Program.{Program}
use Rattle.f3_meaning_whole.specs.Act.{Setting, claim, enter}
use Rattle.f3_meaning_whole.specs.Ran.{Event, ◌>>=◌}
use Rattle.f3_meaning_whole.specs.Run.{output}
use Rattle.f3_code.specs.Core as c
use Rattle.f3_code.specs.CoreRun.{core_here, core_setting, core_world}
use Rattle.f3_code.specs.Lower.{lowered_program}
use Rattle.f3_code.specs.State as s
use Rattle.f3_code.specs.State.{Code, Course, Goes, Next, Stays}
use Rattle.f3_code.specs.Machine as machine
use Rattle.f3_code.specs.Machine.{before, run}
use Rattle.f3_code.specs.Run.{start}
use Rattle.f3_code.specs.Heap.{with_answers}
use Rattle.f3_courses.proofs.Coming.{output_both}
use Rattle.f3_heights.specs.Room.{state_after, state_next, state_run}
use Rattle.f3_cells.specs.States.{setting}
use Rattle.f3_word_cells.specs.Scenes.{code_of}
use Rattle.f3_word_cells.specs.Does.{AreGranted, stream}
use Rattle.f3_word_laws.specs.Comes.{Comes}
use Rattle.f3_word_needs.specs.Room.{IsOfRun}
use Rattle.f3_word_parts.specs.Laws.{PartsAreOfRuns, PartsComeOn}

-- ---- answers of a heap

streams_at : (bs cs : List Bool) (rest : ℕ → Bool) (n : ℕ) → stream (bs ++ cs) rest n ≡ stream bs (stream cs rest) n
streams_at [] cs rest n = refl
streams_at (b ∷ bs) cs rest zero = refl
streams_at (b ∷ bs) cs rest (suc n) = streams_at bs cs rest n

pub streams_both : (bs cs : List Bool) (rest : ℕ → Bool) → stream (bs ++ cs) rest ≡ stream bs (stream cs rest)
streams_both bs cs rest = fun_ext (streams_at bs cs rest)

granted_both : (bs cs : List Bool) → AreGranted bs → AreGranted cs → AreGranted (bs ++ cs)
granted_both [] cs a b = b
granted_both (false ∷ bs) cs a b = granted_both bs cs a b
granted_both (true ∷ bs) cs a b = absurd a

-- ---- states one behind the other

module _ (g : Setting) (code : Code) (n : ℕ) (t : s.State) where
  next_behind : (k : ℕ) (x : Next) → ((v : s.State) → state_run 1000 g code k v ≡ Some t → state_run 1000 g code (k + n) v ≡ state_run 1000 g code n t)
      → state_next x (state_run 1000 g code k) ≡ Some t → state_next x (state_run 1000 g code (k + n)) ≡ state_run 1000 g code n t
  next_behind k (Goes out v) more e = more v e
  next_behind k (Stays out halt) more e = absurd cc

  -- behind some lines, so many more
  pub states_behind : (k : ℕ) (v : s.State) → state_run 1000 g code k v ≡ Some t → state_run 1000 g code (k + n) v ≡ state_run 1000 g code n t
  states_behind zero v e =
      let same : v ≡ t = cc in
      let all : 0 + n ≡ n = omega arith in
      ap (λ i. state_run 1000 g code i v) all ∙ ap (state_run 1000 g code n) same
  states_behind (suc k) v e =
      let all : suc k + n ≡ suc (k + n) = omega arith in
      ap (λ i. state_run 1000 g code i v) all ∙ next_behind k (machine.step 1000 g code v) (states_behind k) e

after_behind : (p : c.Program) (code : Code) (n k : ℕ) (t : s.State) (answers : ℕ → Bool) → state_after 1000 p code answers k ≡ Some t
    → state_after 1000 p code answers (k + n) ≡ state_run 1000 (core_setting p) code n t
after_behind p code n k t answers e =
    next_behind (core_setting p) code n t k
    (machine.performs (claim (core_here p) >>= λ done. enter p.main.initial) (core_world p answers) (λ done w. start p w))
    (states_behind (core_setting p) code n t k) e

pub parts_are_of_runs : PartsAreOfRuns
parts_are_of_runs p t u k bytes r c = record {
  lines = r.lines + k;
  given = r.given ++ c.given;
  comes = λ rest.
      ap (λ a. state_after 1000 (lowered_program p) (code_of p) a (r.lines + k)) (streams_both r.given c.given rest)
      ∙ after_behind (lowered_program p) (code_of p) k r.lines (with_answers (stream c.given rest) t) (stream r.given (stream c.given rest)) (r.comes (stream c.given rest))
      ∙ c.leads rest;
}

-- ---- parts one behind the other

before_both : (a b : List Event) (c : Course) → before a (before b c) ≡ before (a ++ b) c
before_both a b c = let P : List Event → Course = λ l. record { out = l; halt = c.halt } in ap P (sym (append_assoc a b c.out))

pub parts_come_on : PartsComeOn
parts_come_on p t u v k n bytes more c d = record {
  out = c.out ++ d.out;
  given = c.given ++ d.given;
  granted = granted_both c.given d.given c.granted d.granted;
  printed = output_both c.out d.out ∙ ap (λ y. y ++ output d.out) c.printed ∙ ap (λ y. bytes ++ y) d.printed;
  leads = λ rest.
      ap (λ a. state_run 1000 (setting p) (code_of p) (k + n) (with_answers a t)) (streams_both c.given d.given rest)
      ∙ states_behind (setting p) (code_of p) n (with_answers (stream d.given rest) u) k (with_answers (stream c.given (stream d.given rest)) t) (c.leads (stream d.given rest))
      ∙ d.leads rest;
  comes = λ rest j.
      let R : ℕ → s.State → Course = run 1000 (setting p) (code_of p) in
      let count : k + n + j ≡ k + (n + j) = omega arith in
      ap (λ a. R (k + n + j) (with_answers a t)) (streams_both c.given d.given rest)
      ∙ ap (λ i. R i (with_answers (stream c.given (stream d.given rest)) t)) count
      ∙ c.comes (stream d.given rest) (n + j) ∙ ap (before c.out) (d.comes rest j) ∙ before_both c.out d.out (R j (with_answers rest v));
}
