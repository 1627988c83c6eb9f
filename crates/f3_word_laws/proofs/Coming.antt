-- What lines do one after another.
use Rattle.std.proofs.Common.{◌≡◌, ℕ, zero, suc, ◌+◌, Bool, true, false, List, [], ◌∷◌, ◌++◌, refl, sym, ap, ◌∙◌, arith, append_assoc}
use Rattle.std.specs.Prelude.{Some, slice_get}
use Rattle.std.proofs.Math.Path.{fun_ext}
use Rattle.f3_program.specs.declared.program.Program.{Program}
use Rattle.f3_meaning_whole.specs.Ran.{Event}
use Rattle.f3_meaning_whole.specs.Run.{output}
use Rattle.f3_code.specs.State as s
use Rattle.f3_code.specs.State.{Line, Code, Goes, Stays, Next, Course}
use Rattle.f3_code.specs.Machine as machine
use Rattle.f3_code.specs.Machine.{before, run, advance}
use Rattle.f3_code.specs.Heap.{with_answers}
use Rattle.f3_meaning_whole.specs.Act.{Setting}
use Rattle.f3_heights.specs.Room.{state_next, state_run}
use Rattle.f3_cells.specs.States.{setting}
use Rattle.f3_word_cells.specs.Scenes.{code_of}
use Rattle.f3_word_cells.specs.Does.{AreGranted, GoesOn, stream}
use Rattle.f3_courses.proofs.Coming.{output_both}
use Rattle.f3_word_laws.specs.Comes.{Comes}
use Rattle.f3_word_laws.specs.Laws.{RunsGoOn}

stays : (p : Program) (t : s.State) → Comes p t t 0 []
stays p t = record {
  out = [];
  given = [];
  granted = tt;
  printed = refl;
  leads = λ rest. refl;
  comes = λ rest n. let e : 0 + n ≡ n = omega arith in ap (λ k. run 1000 (setting p) (code_of p) k (with_answers rest t)) e;
}

streams : (bs cs : List Bool) (rest : ℕ → Bool) (n : ℕ) → stream (bs ++ cs) rest n ≡ stream bs (stream cs rest) n
streams [] cs rest n = refl
streams (b ∷ bs) cs rest zero = refl
streams (b ∷ bs) cs rest (suc n) = streams bs cs rest n

granted_both : (bs cs : List Bool) → AreGranted bs → AreGranted cs → AreGranted (bs ++ cs)
granted_both [] cs a b = b
granted_both (false ∷ bs) cs a b = granted_both bs cs a b
granted_both (true ∷ bs) cs a b = absurd a

both : (a b : List Event) (c : Course) → before a (before b c) ≡ before (a ++ b) c
both a b c = let P : List Event → Course = λ l. record { out = l; halt = c.halt } in ap P (sym (append_assoc a b c.out))

-- one line more
module _ (g : Setting) (code : Code) (a b : s.State) (out : List Event) (line : machine.step 1000 g code a ≡ Goes out b) where
  next_more : (k : ℕ) (x : Next) → ((v : s.State) → state_run 1000 g code k v ≡ Some a → state_run 1000 g code (suc k) v ≡ Some b)
      → state_next x (state_run 1000 g code k) ≡ Some a → state_next x (state_run 1000 g code (suc k)) ≡ Some b
  next_more k (Goes said u) f e = f u e
  next_more k (Stays said halt) f e = absurd cc

  run_more : (k : ℕ) (t : s.State) → state_run 1000 g code k t ≡ Some a → state_run 1000 g code (suc k) t ≡ Some b
  run_more zero t e =
      let same : t ≡ a = cc in
      ap (λ y. state_next (machine.step 1000 g code y) (state_run 1000 g code 0)) same ∙ ap (λ x. state_next x (state_run 1000 g code 0)) line
  run_more (suc k) t e = next_more k (machine.step 1000 g code t) (run_more k) e

goes_on : (p : Program) (t u v : s.State) (l : Line) (k : ℕ) (bytes more : List ℕ) → Comes p t u k bytes → slice_get (code_of p).lines u.pc ≡ Some l
    → GoesOn p l u v more → Comes p t v (k + 1) (bytes ++ more)
goes_on p t u v l k bytes more c at g = record {
  out = c.out ++ g.out;
  given = c.given ++ g.given;
  granted = granted_both c.given g.given c.granted g.granted;
  printed = output_both c.out g.out ∙ ap (λ y. y ++ output g.out) c.printed ∙ ap (λ y. bytes ++ y) g.printed;
  leads = λ rest.
      let given : stream (c.given ++ g.given) rest ≡ stream c.given (stream g.given rest) = fun_ext (streams c.given g.given rest) in
      let line : machine.step 1000 (setting p) (code_of p) (with_answers (stream g.given rest) u) ≡ Goes g.out (with_answers rest v) =
      ap (λ o. machine.does_line 1000 (setting p) (code_of p) o (with_answers (stream g.given rest) u)) at ∙ g.goes rest in
      let count : k + 1 ≡ suc k = omega arith in
      ap (λ j. state_run 1000 (setting p) (code_of p) j (with_answers (stream (c.given ++ g.given) rest) t)) count
      ∙ ap (λ a. state_run 1000 (setting p) (code_of p) (suc k) (with_answers a t)) given
      ∙ run_more (setting p) (code_of p) (with_answers (stream g.given rest) u) (with_answers rest v) g.out line k (with_answers (stream c.given (stream g.given rest)) t) (c.leads (stream g.given rest));
  comes = λ rest n.
      let R : ℕ → s.State → Course = run 1000 (setting p) (code_of p) in
      let given : stream (c.given ++ g.given) rest ≡ stream c.given (stream g.given rest) = fun_ext (streams c.given g.given rest) in
      let count : k + 1 + n ≡ k + suc n = omega arith in
      let line : machine.step 1000 (setting p) (code_of p) (with_answers (stream g.given rest) u) ≡ Goes g.out (with_answers rest v) =
      ap (λ o. machine.does_line 1000 (setting p) (code_of p) o (with_answers (stream g.given rest) u)) at ∙ g.goes rest in
      ap (λ a. R (k + 1 + n) (with_answers a t)) given
      ∙ ap (λ j. R j (with_answers (stream c.given (stream g.given rest)) t)) count
      ∙ c.comes (stream g.given rest) (suc n)
      ∙ ap (λ y. before c.out (advance 1000 (setting p) (code_of p) y (R n))) line
      ∙ both c.out g.out (R n (with_answers rest v));
}

pub runs_go_on : RunsGoOn
runs_go_on = (stays, goes_on)
