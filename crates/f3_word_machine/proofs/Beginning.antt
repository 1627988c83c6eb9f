-- The first instruction, which prints nothing, and the run behind it.
use Rattle.std.proofs.Common.{◌≡◌, ◌<◌, inl, inr, ℕ, false, suc, Bool, List, [], ◌∷◌, refl, sym, ap, ◌∙◌, subst, arith}
use Rattle.f3_program.specs.declared.program.Program.{Program}
use Rattle.f3_live_blocks.specs.Blocks.{Live}
use Rattle.f3_heights.specs.Room.{state_next, state_run}
use Rattle.f3_cells.specs.States.{setting}
use Rattle.f3_meaning_whole.specs.Formed.{IsWellFormed}
use Rattle.f3_meaning_whole.specs.Ran.{Entered}
use Rattle.f3_meaning_whole.specs.Run.{output}
use Rattle.f3_meaning_whole.specs.Value.{Value}
use Rattle.f3_code.specs.Lower.{lowered_program}
use Rattle.f3_code.specs.State as s
use Rattle.f3_code.specs.State.{Halt, Running, Course}
use Rattle.f3_code.specs.Machine.{before}
use Rattle.f3_code.specs.Run.{after}
use Rattle.f3_cell_kinds.specs.Sense.{MakesSense}
use Rattle.f3_output.specs.Output as o
use Rattle.f3_output.specs.Output.{Wrote, Faulted}
use Rattle.f3_output.proofs.Outputs.{wrote_none}
use Rattle.f3_machine_laws.specs.declared.ended.Ended as machine
use Rattle.f3_machine_laws.specs.declared.ended.Ended.TheVariants as ends
use Rattle.f3_machine_laws.specs.Answers.{EndsSo, GoesOnAfter, AnswersFor}
use Rattle.f3_word_cells.specs.declared.state.State.{State}
use Rattle.f3_word_cells.specs.Plain.{IsPlain}
use Rattle.f3_word_cells.specs.Scenes.{code_of}
use Rattle.f3_word_cells.specs.Does.{IsTold, stream}
use Rattle.f3_word_laws.proofs.Telling.{start_is_told}
use Rattle.f3_word_needs.specs.Room.{HasRoom}
use Rattle.f3_word_needs.proofs.Keeping.{start_has_room}
use Rattle.f3_word_start.specs.Begins.{Begins, IsRefused, first_state}
use Rattle.f3_word_machine.specs.declared.ended.Ended.{Ended}
use Rattle.f3_word_machine.specs.declared.ended.Ended.TheVariants as end
use Rattle.f3_word_machine.specs.Steps.{IsReady}
use Rattle.f3_word_machine.specs.Runs.{AnswersSo, Asks, IsCutIn, IsRefusedIn, machine_from, refusing}
use Rattle.f3_word_machine.proofs.Answering.{granted_all, refused_later}
use Rattle.f3_word_machine.specs.Whole.{machine_of, RunsWhole}
use Rattle.f3_code.specs.Heap.{granted}
use Rattle.f3_places.specs.declared.source.Place.{Place}
use Rattle.f3_meaning_whole.specs.declared.run_error.RunError.{RunError}
use Rattle.f3_meaning_whole.specs.declared.run_error.RunError.TheVariants as error

-- ---- one instruction before

module _ (course behind : ℕ → Course) (vs : List Value) (next : (k : ℕ) → course (suc k) ≡ before (Entered vs ∷ []) (behind k)) where
  halt_is : (k : ℕ) → (behind k).halt ≡ (course (suc k)).halt
  halt_is k = sym (ap (λ (x : Course). x.halt) (next k))

  output_is : (k : ℕ) → output (behind k).out ≡ output (course (suc k)).out
  output_is k = sym (ap (λ (x : Course). output x.out) (next k))

  module _ (steps : ℕ) (a b : o.State) where
    ends_later : (halt : Halt) → EndsSo behind steps a b halt → EndsSo course (suc steps) a b halt
    ends_later halt e = record {
      last = suc e.last;
      within = omega (arith, e.within);
      ends = sym (halt_is e.last) ∙ e.ends;
      wrote = subst (Wrote a b) (output_is e.last) e.wrote;
    }

    goes_later : (k : ℕ) → GoesOnAfter behind k a b → GoesOnAfter course (suc k) a b
    goes_later k e = record { goes_on = sym (halt_is k) ∙ e.goes_on; wrote = subst (Wrote a b) (output_is k) e.wrote }

    later : (e : machine.Ended) → AnswersFor behind steps a b e → AnswersFor course (suc steps) a b e
    later ends.Done m = ends_later s.Done m
    later (ends.Stopped number) m = ends_later (s.Stopped number) m
    later (ends.Failed error place) m = ends_later (s.Failed error place) m
    later ends.StepLimit m = goes_later steps m
    later ends.WriteFault m = (suc m.0, omega (arith, m.1), subst (Faulted a b) (output_is m.0) m.2)
    later ends.Memory m = (suc m.0, omega (arith, m.1), goes_later m.0 m.2)
    later ends.Stuck m = (suc m.0, sym (halt_is m.0) ∙ m.1)

-- ---- a run

-- the first request is granted
abbrev more : (ℕ → Bool) → ℕ → Bool
more answers = stream (false ∷ []) answers

module _ (p : Program) where
  abbrev pub first : s.State
  first = first_state p granted

  pub first_told : (live : Live) (w : State) → IsPlain p → IsWellFormed p → MakesSense p → Begins p live w → IsTold p first
  first_told live w plain formed sense begins = start_is_told p plain formed sense (more granted) first (begins.begins (more granted) refl) live w begins.rooms (begins.stands granted)

  first_roomy : (live : Live) (w : State) → Begins p live w → HasRoom p first
  first_roomy live w begins = start_has_room p first (false ∷ []) (λ rest. begins.begins (more rest) refl)

  pub first_ready : (live : Live) (w : State) → IsPlain p → IsWellFormed p → MakesSense p → Begins p live w → IsReady p live w
  first_ready live w plain formed sense begins =
      record { state = first; rooms = begins.rooms; told = first_told live w plain formed sense begins; stands = begins.stands granted; roomy = first_roomy live w begins }

  module _ (live : Live) (w : State) (begins : Begins p live w) where
    -- the state after the first instruction and so many lines
    states : (answers : ℕ → Bool) (k : ℕ) → (machine_of p).state (more answers) (suc k) ≡ (machine_from p first).state answers k
    states answers k = ap (λ n. state_next n (state_run 1000 (setting p) (code_of p) k)) (begins.goes (more answers) refl)

    -- what the machine has done then
    ended : (answers : ℕ → Bool) (k : ℕ) → ((machine_of p).course (more answers) (suc k)).halt ≡ ((machine_from p first).course answers k).halt
    ended answers k = sym (halt_is ((machine_of p).course (more answers)) ((machine_from p first).course answers) (lowered_program p).main.initial (begins.runs (more answers) refl) k)

    printed : (answers : ℕ → Bool) (k : ℕ) → output ((machine_from p first).course answers k).out ≡ output ((machine_of p).course (more answers) (suc k)).out
    printed answers k = output_is ((machine_of p).course (more answers)) ((machine_from p first).course answers) (lowered_program p).main.initial (begins.runs (more answers) refl) k

    module _ (steps less : ℕ) (a b : o.State) (count : steps ≡ suc less) where
      answered : (answers : ℕ → Bool) (e : machine.Ended) → AnswersFor ((machine_from p first).course answers) less a b e → AnswersFor ((machine_of p).course (more answers)) steps a b e
      answered answers e m = subst (λ n. AnswersFor ((machine_of p).course (more answers)) n a b e) (sym count)
          (later ((machine_of p).course (more answers)) ((machine_from p first).course answers) (lowered_program p).main.initial (begins.runs (more answers) refl) less a b e m)

      all : (e : machine.Ended) → AnswersFor ((machine_from p first).course granted) less a b e → AnswersFor ((machine_of p).course granted) steps a b e
      all e m = subst (λ answers. AnswersFor ((machine_of p).course answers) steps a b e) (granted_all (false ∷ []) tt) (answered granted e m)

      module _ (Full Spent More Less : Live → ℕ → Type 0) (f : (l : Live) (n : ℕ) → Full l n → More l n) (g : (l : Live) (n : ℕ) → Spent l n → Less l n) (First : Type 0) where
        asks : (So To : Live → ℕ → Type 0) → ((l : Live) (n : ℕ) → So l n → To l n) → (t : s.State) → Asks So p t → Asks To p t
        asks So To h t q = record { line = q.line; there = q.there; live = q.live; memory = q.memory; rooms = q.rooms; stands = q.stands; so = h _ _ q.so }

        refused_so : (place : Place) → IsRefusedIn Full p (machine_from p first) less a b place → IsRefusedIn More p (machine_of p) steps a b place
        refused_so place m = record {
          before = suc m.before;
          lines = suc m.lines;
          within = let lt = m.within in omega (arith, lt, count);
          state = m.state;
          comes = ap (λ answers. (machine_of p).state answers (suc m.lines)) (sym (refused_later m.before)) ∙ states (refusing m.before) m.lines ∙ m.comes;
          asks = asks Full More f m.state m.asks;
          ends = ap (λ answers. ((machine_of p).course answers (suc (suc m.lines))).halt) (sym (refused_later m.before)) ∙ ended (refusing m.before) (suc m.lines) ∙ m.ends;
          wrote = subst (λ answers. Wrote a b (output ((machine_of p).course answers (suc (suc m.lines))).out)) (refused_later m.before)
              (subst (Wrote a b) (printed (refusing m.before) (suc m.lines)) m.wrote);
        }

        cut_so : IsCutIn Spent p (machine_from p first) less a b → IsCutIn Less p (machine_of p) steps a b
        cut_so m = record {
          lines = suc m.lines;
          within = let lt = m.within in omega (arith, lt, count);
          state = m.state;
          comes = ap (λ answers. (machine_of p).state answers (suc m.lines)) (sym (granted_all (false ∷ []) tt)) ∙ states granted m.lines ∙ m.comes;
          asks = asks Spent Less g m.state m.asks;
          goes = subst (λ answers. GoesOnAfter ((machine_of p).course answers) (suc m.lines) a b) (granted_all (false ∷ []) tt)
              (goes_later ((machine_of p).course (more granted)) ((machine_from p first).course granted) (lowered_program p).main.initial (begins.runs (more granted) refl) less a b m.lines m.goes);
        }

        fails : (e : RunError) (place : Place) → AnswersSo Full Spent p (machine_from p first) less a b (end.Failed e place) → RunsWhole First More Less p steps a b (end.Failed e place)
        fails error.HeapHasNoRoom place m = inr (refused_so place m)
        fails e place m = all (ends.Failed e place) m

        pub whole : (e : Ended) → AnswersSo Full Spent p (machine_from p first) less a b e → RunsWhole First More Less p steps a b e
        whole end.Done m = all ends.Done m
        whole (end.Stopped number) m = all (ends.Stopped number) m
        whole (end.Failed error place) m = fails error place m
        whole end.StepLimit m = all ends.StepLimit m
        whole end.WriteFault m = all ends.WriteFault m
        whole end.Memory m = inr (cut_so m)

  -- ---- no line is done

  begins_running : (answers : ℕ → Bool) → (machine_of p).course answers 0 ≡ record { out = []; halt = Running }
  unfolding after
  begins_running answers = refl

  none_done : (a : o.State) → GoesOnAfter ((machine_of p).course granted) 0 a a
  none_done a = record {
    goes_on = ap (λ (y : Course). y.halt) (begins_running granted);
    wrote = subst (λ (y : Course). Wrote a a (output y.out)) (sym (begins_running granted)) wrote_none;
  }

  module _ (First : Type 0) (Full Spent : Live → ℕ → Type 0) where
    pub no_steps : (a : o.State) (steps : ℕ) → steps ≡ 0 → RunsWhole First Full Spent p steps a a end.StepLimit
    no_steps a steps none = subst (λ n. GoesOnAfter ((machine_of p).course granted) n a a) (sym none) (none_done a)

    pub no_memory : (a : o.State) (steps : ℕ) → RunsWhole First Full Spent p steps a a end.Memory
    no_memory a steps = inl (none_done a)

    pub refused : (a : o.State) (steps : ℕ) → 0 < steps → IsRefused p → First → RunsWhole First Full Spent p steps a a (end.Failed error.HeapHasNoRoom p.start)
    refused a steps some r lacks =
        let at = r.ends (refusing 0) refl 0 in
        inl (
          some,
          lacks,
          record {
            last = 1;
            within = omega arith;
            ends = ap (λ (y : Course). y.halt) at;
            wrote = subst (λ (y : Course). Wrote a a (output y.out)) (sym at) wrote_none;
          },
        )
