-- What no line of a run does: the code of a program is never lost, and that of a lawful one changes nothing that may only be read.
use Rattle.std.proofs.Common.{◌≡◌, ◌∙◌, ℕ, suc, ◌+◌, Bool, List, [], ◌∷◌, ◌++◌, sym, ap, subst, append_assoc, inl, inr}
use Rattle.std.specs.Prelude.{⊤, ◌⊎◌, None, Some, slice_get}
use Rattle.f3_program.specs.declared.program.Program.{Program}
use Rattle.f3_meaning_whole.specs.Ran.{Event, Printed, Changed, Began, Entered, Ended, Asked, Change, End, Gives, Fails, Stops, Beyond}
use Rattle.f3_meaning_whole.specs.Reference.{Define, Read}
use Rattle.f3_meaning_whole.specs.Run.{run_of, changes}
use Rattle.f3_meaning_whole.specs.Permitted.{Each, Permitted, IsLawful}
use Rattle.f3_meaning_laws.proofs.Changes.{changes_are_permitted}
use Rattle.f3_code.specs.Lower.{lowered_program}
use Rattle.f3_code.specs.State as s
use Rattle.f3_code.specs.State.{Line, Next, Goes, Stays, Course, Stuck}
use Rattle.f3_code.specs.Machine as machine
use Rattle.f3_code.specs.Machine.{before, advance, run}
use Rattle.f3_code.specs.Heap.{with_answers}
use Rattle.f3_code.specs.Run.{after, Agrees}
use Rattle.f3_code_laws.proofs.Source.{translated}
use Rattle.f3_cells.specs.States.{setting}
use Rattle.f3_heights.proofs.States.{states_are_of_runs}
use Rattle.f3_word_cells.specs.Scenes.{code_of}
use Rattle.f3_word_cells.specs.Does.{StopsSo, IsLost, IsForbidden, does_line, stream}
use Rattle.f3_word_needs.specs.Room.{IsOfRun}
use Rattle.f3_word_machine.proofs.Course.{none_more}

-- ---- runs of a program

no_end : (e : End ⊤) → Agrees Stuck e → ⊥
no_end (Gives x w) a = a
no_end (Fails error place) a = a
no_end (Stops code) a = a
no_end Beyond a = a

-- the machine with the code of a program is never stuck
never_stuck : (p : Program) (answers : ℕ → Bool) (k : ℕ) → (after 1000 (lowered_program p) (code_of p) answers k).halt ≡ Stuck → ⊥
never_stuck p answers k e =
    let o = (translated p answers).only k (λ runs. let no : Stuck ≡ s.Running = sym e ∙ runs in cc) in
    no_end (run_of p o.0 answers).end (subst (λ h. Agrees h (run_of p o.0 answers).end) e o.2)

among : (P : Change → Type 0) (front : List Event) (c : Change) (vs : List _) (rest : List Event) → Each P (changes (front ++ Changed c vs ∷ rest)) → P c
among P [] c vs rest all = all.0
among P (Printed byte ∷ front) c vs rest all = among P front c vs rest all
among P (Changed d ws ∷ front) c vs rest all = among P front c vs rest all.1
among P (Began stage ∷ front) c vs rest all = among P front c vs rest all
among P (Entered ws ∷ front) c vs rest all = among P front c vs rest all
among P (Ended level ∷ front) c vs rest all = among P front c vs rest all
among P (Asked refused ∷ front) c vs rest all = among P front c vs rest all

-- no change in it is one of what may only be read
never_reads : (p : Program) (answers : ℕ → Bool) (k : ℕ) → IsLawful p → (front : List Event) (c : Change) (vs : List _)
    → (after 1000 (lowered_program p) (code_of p) answers k).out ≡ front ++ Changed c vs ∷ [] → (c.reference).right ≡ Read → ⊥
never_reads p answers k lawful front c vs e read =
    let o = (translated p answers).begins k in
    let split : (run_of p o.0 answers).out ≡ front ++ Changed c vs ∷ o.1 = o.2 ∙ ap (λ l. l ++ o.1) e ∙ append_assoc front (Changed c vs ∷ []) o.1 in
    let permitted = among (Permitted p) front c vs o.1 (subst (λ l. Each (Permitted p) (changes l)) split (changes_are_permitted p lawful o.0 answers)) in
    let no : Define ≡ Read = sym permitted.by_right ∙ read in
    cc

-- ---- a state of a run

module _ (p : Program) (t : s.State) (r : IsOfRun p t) where
  -- the machine from its start on, and from the state on, where the heap gives these answers there
  module _ (rest : ℕ → Bool) where
    abbrev whole : ℕ → Course
    whole k = after 1000 (lowered_program p) (code_of p) (stream r.given rest) k

    abbrev onward : ℕ → Course
    onward k = run 1000 (setting p) (code_of p) k (with_answers rest t)

    comes : (out : List Event) × ((j : ℕ) → whole (suc (r.lines + j)) ≡ before out (onward j))
    comes = states_are_of_runs 1000 (lowered_program p) (code_of p) (stream r.given rest) r.lines (with_answers rest t) (r.comes rest)

    not_stuck : (j : ℕ) → (onward j).halt ≡ Stuck → ⊥
    not_stuck j e = never_stuck p (stream r.given rest) (suc (r.lines + j)) (ap (λ (c : Course). c.halt) (comes.1 j) ∙ e)

  nowhere : (u : s.State) → slice_get (code_of p).lines u.pc ≡ None → run 1000 (setting p) (code_of p) 1 u ≡ record { out = []; halt = Stuck }
  nowhere u none = ap (λ o. advance 1000 (setting p) (code_of p) (machine.does_line 1000 (setting p) (code_of p) o u) (run 1000 (setting p) (code_of p) 0)) none

  -- it is at a line
  pub never_nowhere : slice_get (code_of p).lines t.pc ≡ None → ⊥
  never_nowhere none = not_stuck none_more 1 (ap (λ (c : Course). c.halt) (nowhere (with_answers none_more t) none))

  module _ (l : Line) (there : slice_get (code_of p).lines t.pc ≡ Some l) where
    next : (given : List Bool) (y : Next) (j : ℕ) → does_line p l t given none_more ≡ y
        → onward (stream given none_more) (suc j) ≡ advance 1000 (setting p) (code_of p) y (run 1000 (setting p) (code_of p) j)
    next given y j is = ap (λ z. advance 1000 (setting p) (code_of p) z (run 1000 (setting p) (code_of p) j))
        (ap (λ o. machine.does_line 1000 (setting p) (code_of p) o (with_answers (stream given none_more) t)) there ∙ is)

    pub never_lost : IsLost p l t ⊎ StopsSo p l t Stuck [] → ⊥
    never_lost (inl f) =
        let one = next (f.goes).given (Goes (f.goes).out (with_answers none_more f.to)) 1 ((f.goes).goes none_more) in
        not_stuck (stream (f.goes).given none_more) 2 (ap (λ (c : Course). c.halt) one ∙ ap (λ (c : Course). c.halt) (nowhere (with_answers none_more f.to) f.nowhere))
    never_lost (inr f) =
        not_stuck (stream f.given none_more) 1 (ap (λ (c : Course). c.halt) (next f.given (Stays f.out Stuck) 0 (f.stops none_more)))

    pub never_forbidden : IsLawful p → IsForbidden p l t → ⊥
    never_forbidden lawful f =
        let rest = stream f.given none_more in
        let one = next f.given (Goes (Changed f.change f.values ∷ []) (with_answers none_more f.next)) 0 (f.changes none_more) in
        never_reads p (stream r.given rest) (suc (r.lines + 1)) lawful (comes rest).0 f.change f.values
        (ap (λ (c : Course). c.out) ((comes rest).1 1) ∙ ap (λ (c : Course). (comes rest).0 ++ c.out) one) f.right
