-- What instructions do where such cells stand on top.
use Rattle.std.proofs.Common.{◌≡◌, ℕ, suc, ℤ, ◌+◌, ◌-◌, Bool, true, false, List, [], ◌∷◌, drop, map, refl}
use Rattle.std.specs.Prelude.{Option}
use Rattle.f3_places.specs.declared.source.Place.{Place}
use Rattle.f3_program.specs.declared.program.Program.{Program}
use Rattle.f3_program.specs.declared.statement.Range.{Range}
use Rattle.f3_meaning_whole.specs.Value.{Value, Truth, number_of, truth_of}
use Rattle.f3_meaning_whole.specs.Arithmetic.{is_zero, meets}
use Rattle.f3_meaning_whole.specs.Act as m
use Rattle.f3_meaning_whole.specs.Act.{at, lending, selecting}
use Rattle.f3_meaning_whole.specs.Exec as exec
use Rattle.f3_meaning_whole.specs.Ran.{fails, gives, Event, Began, Printed, prints_bytes}
use Rattle.f3_meaning_whole.specs.Ran as ran
use Rattle.f3_meaning_whole.specs.Reference.{Reference}
use Rattle.f3_meaning_whole.specs.declared.run_error.RunError.TheVariants.{StepIsZero}
use Rattle.f3_code.specs.declared.instruction.Instruction.{Instruction}
use Rattle.f3_code.specs.declared.instruction.Instruction.TheVariants as i
use Rattle.f3_code.specs.declared.instruction.Way.{Way}
use Rattle.f3_code.specs.State.{Line, placed, Next, Goes, Stays, Failed, Stopped, Done}
use Rattle.f3_code.specs.State as s
use Rattle.f3_code.specs.Machine.{flow_of}
use Rattle.f3_code.specs.Heap.{with_answers}
use Rattle.f3_code.specs.Machine.{on}
use Rattle.f3_shaping.specs.Results.{value_text}
use Rattle.f3_word_control.proofs.Shown.{prints_so}
use Rattle.f3_word_control.proofs.Lines.{does, with_stack, with_here}

-- nothing is lent any more but this
abbrev pub lending_less : m.Here → m.Here
lending_less here = record {
  place = here.place;
  unit = here.unit;
  level = here.level;
  variables = here.variables;
  names = here.names;
  lent = drop 1 here.lent;
  selected = here.selected;
}

module _ (p : Program) (l : Line) (t : s.State) (rest : ℕ → Bool) where
  abbrev pub Leads : Instruction → List Event → s.State → Type 0
  Leads x out u = does p l t x rest ≡ Goes out (with_answers rest u)

  -- the next line, and so far on
  abbrev pub next : List s.Cell → s.State
  next stack = with_stack (t.pc + 1) stack t

  abbrev pub far : ℕ → List s.Cell → s.State
  far d stack = with_stack (t.pc + 1 + d) stack t

  pub skips_not : (d : ℕ) (v : Value) (below : List s.Cell) → t.stack ≡ s.Datum v ∷ below → truth_of v ≡ true → Leads (i.SkipIfFalse d) [] (next below)
  skips_not d v below e f = rw (e, f) refl

  pub skips_if_false : (d : ℕ) (v : Value) (below : List s.Cell) → t.stack ≡ s.Datum v ∷ below → truth_of v ≡ false → Leads (i.SkipIfFalse d) [] (far d below)
  skips_if_false d v below e f = rw (e, f) refl

  pub skips_if_true : (d : ℕ) (v : Value) (below : List s.Cell) → t.stack ≡ s.Datum v ∷ below → truth_of v ≡ true → Leads (i.SkipIfTrue d) [] (far d below)
  skips_if_true d v below e f = rw (e, f) refl

  pub skips_true_not : (d : ℕ) (v : Value) (below : List s.Cell) → t.stack ≡ s.Datum v ∷ below → truth_of v ≡ false → Leads (i.SkipIfTrue d) [] (next below)
  skips_true_not d v below e f = rw (e, f) refl

  -- a step
  pub step_fails : (v : Value) (below : List s.Cell) → t.stack ≡ s.Datum v ∷ below → is_zero (number_of v) ≡ true
      → does p l t i.TestStep rest ≡ Stays [] (Failed StepIsZero (placed l.place t.here).place)
  unfolding fails
  step_fails v below e f = rw (e, f) refl

  pub step_stays : (v : Value) (below : List s.Cell) → t.stack ≡ s.Datum v ∷ below → is_zero (number_of v) ≡ false → Leads i.TestStep [] (next (s.Datum v ∷ below))
  unfolding gives
  step_stays v below e f = rw (e, f) refl

  pub went_on : (d : ℕ) → Leads (i.GoOn d) [] (far d t.stack)
  went_on d = refl

  pub went_back : (d : ℕ) → Leads (i.GoBack d) [] (with_stack (t.pc - d) t.stack t)
  went_back d = refl

  pub discarded : Leads i.Discard [] (next t.stack)
  discarded = refl

  pub stopped : (n : Option ℕ) → does p l t (i.Stop n) rest ≡ Stays [] (Stopped n)
  stopped n = refl

  pub finished : does p l t i.Finish rest ≡ Stays [] Done
  finished = refl

  -- places
  pub begun : Leads i.Begin (Began (record { store = t.world.store; lent = t.here.lent }) ∷ []) (next t.stack)
  unfolding ran.does
  begun = refl

  pub placed_so : Leads i.SetPlace [] (with_here (t.pc + 1) t.stack (placed l.place t.here) t)
  placed_so = refl

  pub lent_so : (r : Reference) (below : List s.Cell) → t.stack ≡ s.Object r ∷ below → Leads i.Lend [] (with_here (t.pc + 1) t.stack (lending (r ∷ []) t.here) t)
  lent_so r below e = rw e refl

  pub unlent_so : Leads i.Unlend [] (with_here (t.pc + 1) t.stack (lending_less t.here) t)
  unlent_so = refl

  -- constructs
  pub left_so : (by : Way) (d : ℕ) (outer : m.Here) (below : List s.Cell) → t.stack ≡ s.Outside outer ∷ below
      → Leads (i.Leave by d) [] (with_here (t.pc + 1 + d) (s.Going (flow_of by t.here.place) ∷ below) outer t)
  left_so by d outer below e = rw e refl

  pub departs_onward : (cycle exit : ℕ) (below : List s.Cell) → t.stack ≡ s.Going exec.Onward ∷ below → Leads (i.Depart cycle exit) [] (far 2 below)
  departs_onward cycle exit below e = rw e refl

  pub departs_cycled : (cycle exit : ℕ) (below : List s.Cell) → t.stack ≡ s.Going exec.Cycled ∷ below → Leads (i.Depart cycle exit) [] (far cycle below)
  departs_cycled cycle exit below e = rw e refl

  pub departs_left : (cycle exit : ℕ) (below : List s.Cell) → t.stack ≡ s.Going exec.Left ∷ below → Leads (i.Depart cycle exit) [] (far exit below)
  departs_left cycle exit below e = rw e refl

  pub departs_returned : (cycle exit : ℕ) (place : Place) (below : List s.Cell) → t.stack ≡ s.Going (exec.Returned place) ∷ below
      → Leads (i.Depart cycle exit) [] (with_here (t.pc + 1) below (at place t.here) t)
  departs_returned cycle exit place below e = rw e refl

  pub turns_over : (d k : ℕ) (step : ℤ) (below : List s.Cell) → t.stack ≡ s.Turns k step ∷ below → k ≡ 0
      → Leads (i.CountNext d) [] (far d (s.Turns 0 step ∷ below))
  turns_over d k step below e f = rw (e, f) refl

  pub turns_on : (d k n : ℕ) (step : ℤ) (below : List s.Cell) → t.stack ≡ s.Turns k step ∷ below → k ≡ suc n
      → Leads (i.CountNext d) [] (next (s.Turns n step ∷ below))
  turns_on d k n step below e f = rw (e, f) refl

  pub selected_so : (v : Value) (below : List s.Cell) → t.stack ≡ s.Datum v ∷ below
      → Leads i.Selecting [] (with_here (t.pc + 1) (s.Outside t.here ∷ below) (selecting v t.here) t)
  selected_so v below e = rw e refl

  pub met : (r : Range) (b : Bool) → meets r t.here.selected ≡ b → Leads (i.Meets r) [] (next (s.Datum (Truth b) ∷ t.stack))
  met r b e = rw e refl

  -- cells
  pub dropped : (b : s.Cell) (below : List s.Cell) → t.stack ≡ b ∷ below → Leads i.Drop [] (next below)
  dropped b below e = rw e refl

  pub swapped : (a b : s.Cell) (below : List s.Cell) → t.stack ≡ a ∷ b ∷ below → Leads i.Swap [] (next (b ∷ a ∷ below))
  swapped a b below e = rw e refl

  pub unwound : (k : ℕ) → Leads (i.Unwind k) [] (next (drop k t.stack))
  unwound k = refl

  -- what is printed
  pub byte_printed : (b : ℕ) → Leads (i.PrintByte b) (Printed b ∷ []) (next t.stack)
  unfolding prints_bytes ran.does
  byte_printed b = refl

  pub value_printed : (v : Value) (below : List s.Cell) → t.stack ≡ s.Datum v ∷ below → Leads i.PrintValue (map Printed (value_text v)) (next below)
  value_printed v below e = rw e (prints_so v (with_answers rest t).world (λ done. on (with_answers rest t) below))
