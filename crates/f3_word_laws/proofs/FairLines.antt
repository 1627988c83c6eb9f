-- No line of a program without allocatables ends its run for want of room where the heap grants all that is asked.
use Rattle.std.proofs.Common.{◌≡◌, ◌∙◌, ℕ, zero, suc, ℤ, pos, Bool, true, List, [], ◌∷◌, length, Option, None, Some, refl, sym, ap, subst, slice_get, nat_lt}
use Rattle.f3_places.specs.declared.source.Place.{Place}
use Rattle.f3_program.specs.declared.program.Program.{Program}
use Rattle.f3_meaning_whole.specs.Value.{Value, Composite, Array, joined, number_of, truth_of}
use Rattle.f3_meaning_whole.specs.Reference.{Reference}
use Rattle.f3_meaning_whole.specs.declared.run_error.RunError.TheVariants as error
use Rattle.f3_meaning_whole.specs.Act.{Setting, Here, Passed, given, passed_at}
use Rattle.f3_meaning_whole.specs.Exec.{Flow, Onward, Cycled, Left, Returned}
use Rattle.f3_meaning_whole.specs.Ran.{◌>>=◌}
use Rattle.f3_code.specs.CoreRun.{core_here, core_world}
use Rattle.f3_code.specs.Exec.{is_held}
use Rattle.f3_code.specs.declared.instruction.Instruction.{Instruction}
use Rattle.f3_code.specs.declared.instruction.Instruction.TheVariants as i
use Rattle.f3_code.specs.Lower.{lowered_program}
use Rattle.f3_code.specs.State.{Line, placed, Entry, Code, Cell, Frame, State, Next, Goes, Stays, Halt, Failed}
use Rattle.f3_code.specs.State as s
use Rattle.f3_code.specs.Machine.{act, advance, called_at, course, does_line, step, returned, run, outward, passed_in, departs, next_turn_at, next_object, next_argument, argument_of, choice_of, selector_of}
use Rattle.f3_code.specs.Heap.{granted}
use Rattle.f3_code.specs.Run.{after}
use Rattle.f3_cells.specs.States.{setting}
use Rattle.f3_word_cells.specs.Plain.{IsPlain, is_plain_act}
use Rattle.f3_word_cells.specs.Scenes.{code_of}
use Rattle.f3_word_laws.specs.Laws.{GrantedRunsHaveRoom}
use Rattle.f3_word_laws.proofs.Fair.{AllGranted, IsFair, IsFairHalt, fine, does_fair, gives_fair, looks_fair, prints_fair, bind_fair, claim_fair, reach_fair, performing, if_so, at_datum, at_object, at_bound, at_bounds, at_turns, at_objects, at_level, at_outside, at_going, at_any, at_many}
use Rattle.f3_word_laws.proofs.FairParts.{converted_fair, apply_fair, change_fair, claim_for_fair, built_fair, read_fair, print_fair, picks_in_each_fair, named_fair, selects_fair, result_fair, asked_fair, structure_fair, unless_fair, begun_fair, tested_fair}

-- ---- parts of instructions

called_fair : (o : Option Entry) (s : State) (stack : List Cell) (here : Here) (ps : List Passed) → AllGranted (s.world).answers → IsFair (called_at o s stack here ps)
called_fair None s stack here ps a = fine a
called_fair (Some e) s stack here ps a = performing (begun_fair ps e.initial here) s.world a _ (λ x u b. b)

returned_fair : (frames : List Frame) (s : State) (v : Value) → AllGranted (s.world).answers → IsFair (returned frames s v)
returned_fair [] s v a = fine tt
returned_fair (f ∷ fs) s v a = performing (does_fair _) s.world a _ (λ x u b. b)

outward_fair : (frames : List Frame) (s : State) → AllGranted (s.world).answers → IsFair (outward frames s)
outward_fair [] s a = fine tt
outward_fair (f ∷ fs) s a = fine a

departs_fair : (flow : Flow) (cycle exit : ℕ) (s : State) (stack : List Cell) → AllGranted (s.world).answers → IsFair (departs flow cycle exit s stack)
departs_fair Onward cycle exit s stack a = fine a
departs_fair Cycled cycle exit s stack a = fine a
departs_fair Left cycle exit s stack a = fine a
departs_fair (Returned place) cycle exit s stack a = fine a

turn_fair : (k : ℕ) (step : ℤ) (d : ℕ) (s : State) (stack : List Cell) → AllGranted (s.world).answers → IsFair (next_turn_at k step d s stack)
turn_fair zero step d s stack a = fine a
turn_fair (suc k) step d s stack a = fine a

object_fair : (rs : List Reference) (d : ℕ) (s : State) (stack : List Cell) → AllGranted (s.world).answers → IsFair (next_object rs d s stack)
object_fair [] d s stack a = fine a
object_fair (r ∷ rs) d s stack a = fine a

argument_fair : (rs : List Reference) (is_held : Bool) (d : ℕ) (s : State) (stack : List Cell) → AllGranted (s.world).answers → IsFair (next_argument rs is_held d s stack)
argument_fair [] is_held d s stack a = fine a
argument_fair (r ∷ rs) is_held d s stack a = if_so is_held (fine a) (fine a)

-- the array that an array constructor makes
abbrev array_of : List Passed → Value
array_of ps = Array (record { lower = pos 1; extent = length (given ps) } ∷ []) (joined (given ps))

-- ---- instructions

module _ (limit : ℕ) (g : Setting) (code : Code) where
  pub act_fair : (i : Instruction) (v : Value) (here : Here) (s : State) → AllGranted (s.world).answers → is_plain_act i ≡ true → IsFair (act limit g code i v here s)
  act_fair (i.Push c) v here s a plain = fine a
  act_fair i.Plain v here s a plain = at_datum s.stack (λ x st. fine a)
  act_fair (i.Unary c t) v here s a plain = at_datum s.stack (λ x st. performing (change_fair c t x here.place) s.world a _ (λ x u b. b))
  act_fair (i.Binary c t) v here s a plain = at_datum s.stack (λ y st. at_datum st (λ x st. performing (apply_fair c t x y here.place) s.world a _ (λ x u b. b)))
  act_fair (i.Array k) v here s a plain = at_many argument_of k [] s.stack (λ ps st. performing (built_fair (array_of ps) here) s.world a _ (λ x u b. b))
  act_fair (i.Structure t k) v here s a plain = at_many argument_of k [] s.stack (λ ps st. performing (bind_fair (structure_fair _ 0 ps here) (λ vs. built_fair (Composite vs) here)) s.world a _ (λ x u b. b))
  act_fair (i.Call f k) v here s a plain = at_many argument_of k [] s.stack (λ ps st.
      if_so (nat_lt (length s.frames) limit) (called_fair (slice_get code.procedures f) s st here ps a) (fine tt))
  act_fair i.Result v here s a plain = at_datum s.stack (λ x st. performing (result_fair x here) s.world a _ (λ x u b. b))
  act_fair i.IsAllocated v here s a plain = absurd cc
  act_fair i.BoundsOfValue v here s a plain = at_datum s.stack (λ x st. fine a)
  act_fair i.BoundsOfVariable v here s a plain = at_object s.stack (λ r st. fine a)
  act_fair i.Size v here s a plain = at_bounds s.stack (λ ss st. performing (converted_fair _ _ here.place) s.world a _ (λ x u b. b))
  act_fair (i.Bound q) v here s a plain = at_datum s.stack (λ x st. at_bounds st (λ ss st. performing (asked_fair q ss _ here) s.world a _ (λ x u b. b)))
  act_fair i.Load v here s a plain = at_object s.stack (λ r st. performing (read_fair r here) s.world a _ (λ x u b. b))
  act_fair (i.PassValue k) v here s a plain = at_datum s.stack (λ x st. performing (claim_for_fair x here) s.world a _ (λ x u b. b))
  act_fair (i.PassVariable k) v here s a plain = at_object s.stack (λ r st. fine a)
  act_fair (i.Refer x) v here s a plain = performing (named_fair g x here) s.world a _ (λ x u b. b)
  act_fair (i.Component k) v here s a plain = at_object s.stack (λ r st. performing (looks_fair _) s.world a _ (λ x u b. b))
  act_fair (i.ComponentOf k) v here s a plain = at_object s.stack (λ r st. performing (looks_fair _) s.world a _ (λ x u b. b))
  act_fair i.Contents v here s a plain = absurd cc
  act_fair (i.Select is_opened k) v here s a plain = at_many choice_of k [] s.stack (λ cs st. at_object st (λ r st.
      performing (selects_fair is_opened cs r here) s.world a _ (λ x u b. b)))
  act_fair (i.SelectOf is_opened n k) v here s a plain = at_many choice_of k [] s.stack (λ cs st. at_object st (λ q st. at_object st (λ r st.
      performing (reach_fair r.reach (selects_fair is_opened cs q here) (picks_in_each_fair _ q cs here)) s.world a _ (λ x u b. b))))
  act_fair i.Subscript v here s a plain = at_datum s.stack (λ x st. fine a)
  act_fair i.Limit v here s a plain = at_datum s.stack (λ x st. fine a)
  act_fair i.NoLimit v here s a plain = fine a
  act_fair i.Triplet v here s a plain = at_datum s.stack (λ z st. at_bound st (λ upper st. at_bound st (λ lower st. fine a)))
  act_fair i.TestShape v here s a plain = at_object s.stack (λ r st. at_datum st (λ x st. performing (tested_fair _ _ here tt) s.world a _ (λ x u b. b)))
  act_fair (i.ByState other unallocated) v here s a plain = absurd cc
  act_fair (i.TestRank rank) v here s a plain = absurd cc
  act_fair (i.New rank) v here s a plain = absurd cc
  act_fair (i.Take of) v here s a plain = at_object s.stack (λ r st. at_datum st (λ x st.
      performing (bind_fair (converted_fair of x here.place) (λ x. bind_fair (claim_for_fair x here) (λ done. does_fair _))) s.world a _ (λ x u b. b)))
  act_fair (i.Fill of) v here s a plain = at_object s.stack (λ r st. at_datum st (λ x st.
      performing (bind_fair (converted_fair of x here.place) (λ x. does_fair _)) s.world a _ (λ x u b. b)))
  act_fair i.Begin v here s a plain = performing (does_fair _) s.world a _ (λ x u b. b)
  act_fair i.Drop v here s a plain = at_any s.stack (λ c st. fine a)
  act_fair (i.Unwind k) v here s a plain = fine a
  act_fair i.Swap v here s a plain = at_any s.stack (λ c st. at_any st (λ d st. fine a))
  act_fair i.LendBoth v here s a plain = absurd cc
  act_fair i.TakeOver v here s a plain = absurd cc
  act_fair i.Dimension v here s a plain = absurd cc
  act_fair (i.Allocate rank k) v here s a plain = absurd cc
  act_fair (i.TestFree d) v here s a plain = absurd cc
  act_fair i.NoError v here s a plain = absurd cc
  act_fair (i.SkipIfFailed d) v here s a plain = absurd cc
  act_fair i.Check v here s a plain = absurd cc
  act_fair i.StoreStatus v here s a plain = absurd cc
  act_fair i.PrintValue v here s a plain = at_datum s.stack (λ x st. performing (print_fair x) s.world a _ (λ x u b. b))
  act_fair (i.PrintByte b) v here s a plain = performing (prints_fair _) s.world a _ (λ x u b. b)
  act_fair (i.Stop number) v here s a plain = fine tt
  act_fair i.SetPlace v here s a plain = fine a
  act_fair (i.GoOn d) v here s a plain = fine a
  act_fair (i.GoBack d) v here s a plain = fine a
  act_fair (i.SkipIfFalse d) v here s a plain = at_datum s.stack (λ x st. if_so (truth_of x) (fine a) (fine a))
  act_fair (i.SkipIfTrue d) v here s a plain = at_datum s.stack (λ x st. if_so (truth_of x) (fine a) (fine a))
  act_fair (i.Meets r) v here s a plain = fine a
  act_fair i.Selecting v here s a plain = at_datum s.stack (λ x st. fine a)
  act_fair (i.Leave by d) v here s a plain = at_outside s.stack (λ outer st. fine a)
  act_fair (i.Depart cycle exit) v here s a plain = at_going s.stack (λ flow st. departs_fair flow cycle exit s st a)
  act_fair i.SelectVariable v here s a plain = at_object s.stack (λ r st. fine a)
  act_fair (i.SelectValue of) v here s a plain = at_datum s.stack (λ x st. performing (claim_for_fair x here) s.world a _ (λ x u b. b))
  act_fair (i.Associate k) v here s a plain = at_many selector_of k [] s.stack (λ found st.
      performing (bind_fair (looks_fair _) (λ level. bind_fair (does_fair _) (λ done. gives_fair level))) s.world a _ (λ x u b. b))
  act_fair i.Associated v here s a plain = at_going s.stack (λ flow st. at_level st (λ level rs st. fine a))
  act_fair (i.NextObject d) v here s a plain = at_objects s.stack (λ rs st. object_fair rs d s st a)
  act_fair i.EndAssociate v here s a plain = at_objects s.stack (λ rs st. at_going st (λ flow st. at_level st (λ level rs st.
      performing (does_fair _) s.world a _ (λ x u b. b))))
  act_fair (i.Convert of) v here s a plain = at_datum s.stack (λ x st. performing (converted_fair of x here.place) s.world a _ (λ x u b. b))
  act_fair i.TestStep v here s a plain = at_datum s.stack (λ x st. performing (unless_fair (number_of x) here) s.world a _ (λ x u b. b))
  act_fair i.CountBegin v here s a plain = at_object s.stack (λ r st. at_datum st (λ step st. at_datum st (λ last st. at_datum st (λ first st.
      performing (does_fair _) s.world a _ (λ x u b. b)))))
  act_fair (i.CountNext d) v here s a plain = at_turns s.stack (λ k step st. turn_fair k step d s st a)
  act_fair (i.CountUp of) v here s a plain = at_object s.stack (λ r st. at_turns st (λ k step rest.
      performing (bind_fair (looks_fair _) (λ old. bind_fair (converted_fair of _ here.place) (λ x. does_fair _))) s.world a _ (λ x u b. b)))
  act_fair i.Lend v here s a plain = at_object s.stack (λ r st. fine a)
  act_fair i.Unlend v here s a plain = fine a
  act_fair (i.SkipUnlessRank rank d) v here s a plain = absurd cc
  act_fair i.PassObject v here s a plain = absurd cc
  act_fair (i.Routine t) v here s a plain = absurd cc
  act_fair i.Back v here s a plain = absurd cc
  act_fair (i.WorkComponent k) v here s a plain = absurd cc
  act_fair i.WalkBegin v here s a plain = absurd cc
  act_fair (i.WalkNext d) v here s a plain = absurd cc
  act_fair (i.SkipUnlessAllocated d) v here s a plain = absurd cc
  act_fair i.OpenContents v here s a plain = absurd cc
  act_fair i.Free v here s a plain = absurd cc
  act_fair i.Clear v here s a plain = at_object s.stack (λ r st. performing (does_fair _) s.world a _ (λ x u b. b))
  act_fair i.Set v here s a plain = at_object s.stack (λ r st. performing (does_fair _) s.world a _ (λ x u b. b))
  act_fair i.Discard v here s a plain = fine a
  act_fair i.Dummies v here s a plain = fine a
  act_fair (i.ResultOf x) v here s a plain = performing (bind_fair (looks_fair _) (λ y. built_fair y here)) s.world a _ (λ x u b. b)
  act_fair i.Outward v here s a plain = outward_fair s.frames s a
  act_fair (i.NextArgument k d) v here s a plain = at_objects s.stack (λ rs st. argument_fair rs (is_held (passed_at k (passed_in s.frames))) d s st a)
  act_fair i.Return v here s a plain = at_objects s.stack (λ rs st. at_datum st (λ x st. returned_fair s.frames s x a))
  act_fair i.Finish v here s a plain = fine tt

  -- so no line
  line_fair : (o : Option Line) (s : State) → ((l : Line) → o ≡ Some l → is_plain_act l.act ≡ true) → AllGranted (s.world).answers → IsFair (does_line limit g code o s)
  line_fair None s plain a = fine tt
  line_fair (Some l) s plain a = act_fair l.act l.value (placed l.place s.here) s a (plain l refl)

  -- and no run
  module _ (plain : (pc : ℕ) (l : Line) → slice_get code.lines pc ≡ Some l → is_plain_act l.act ≡ true) where
    next_fair : (x : Next) (k : ℕ) → IsFair x → ((s : State) → AllGranted (s.world).answers → IsFairHalt (run limit g code k s).halt) → IsFairHalt (advance limit g code x (run limit g code k)).halt
    next_fair (Goes out u) k h f = f u h.so
    next_fair (Stays out halt) k h f = h.so

    run_fair : (k : ℕ) (s : State) → AllGranted (s.world).answers → IsFairHalt (run limit g code k s).halt
    run_fair zero s a = tt
    run_fair (suc k) s a = next_fair (step limit g code s) k (line_fair (slice_get code.lines s.pc) s (plain s.pc) a) (run_fair k)

    course_fair : (x : Next) (k : ℕ) → IsFair x → IsFairHalt (course limit g code x k).halt
    course_fair x zero h = tt
    course_fair x (suc k) h = next_fair x k h (run_fair k)

no_room : (place : Place) → IsFairHalt (Failed error.HeapHasNoRoom place) → ⊥
no_room place h = h

pub granted_runs_have_room : GrantedRunsHaveRoom
unfolding after
granted_runs_have_room p plain k place e =
    no_room place (subst IsFairHalt e (course_fair 1000 (setting p) (code_of p) plain.lines _ k
    (performing (bind_fair (claim_fair (core_here (lowered_program p))) (λ done. does_fair _)) (core_world (lowered_program p) granted) (λ n. refl) _ (λ x u b. b))))
