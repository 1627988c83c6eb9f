-- Each instruction can follow any answers of a heap.
use Rattle.std.proofs.Common.{ℕ, zero, suc, ℤ, pos, Bool, List, [], ◌∷◌, length, Option, None, Some, refl, slice_get, nat_eq, nat_lt}
use Rattle.f3_meaning_whole.specs.Value.{Value, Composite, Array, Allocated, joined, number_of, truth_of, is_allocated, conforms, spans_of}
use Rattle.f3_meaning_whole.specs.Store.{Path, get}
use Rattle.f3_meaning_whole.specs.Reference.{Reference, spans, is_pinned}
use Rattle.f3_meaning_whole.specs.declared.run_error.RunError.{RunError}
use Rattle.f3_meaning_whole.specs.Act.{Setting, Here, Passed, given, passed_at}
use Rattle.f3_meaning_whole.specs.Exec.{Flow, Onward, Cycled, Left, Returned}
use Rattle.f3_code.specs.Exec.{is_held}
use Rattle.f3_code.specs.declared.instruction.Instruction.{Instruction}
use Rattle.f3_code.specs.declared.instruction.Instruction.TheVariants as i
use Rattle.f3_code.specs.State.{Line, placed, Entry, Code, Cell, Frame, State, Next}
use Rattle.f3_code.specs.Machine.{act, does_line, called_at, returned, outward, passed_in, routine_at, departs, branches, next_turn_at, next_element, next_object, next_argument, skips_failed, argument_of, choice_of, extent_of, selector_of, no_calls}
use Rattle.f3_code.specs.Heap.{with_answers}
use Rattle.f3_answers.proofs.Regular.{gives_regular, looks_regular, does_regular, prints_regular, bind_regular, reach_regular}
use Rattle.f3_answers.proofs.Parts.{converted_regular, apply_regular, change_regular, claim_regular, claim_for_regular, built_regular, read_regular, print_regular, picks_in_each_regular, named_regular, contents_regular, opens_regular, selects_regular, result_regular, asked_regular, structure_regular, allocate_regular, unless_regular, take_over_regular, begun_regular, checked_regular, tested_regular}
use Rattle.f3_answers.proofs.Steered.{Steered, straight, performing, if_steered, at_datum, at_object, at_bound, at_bounds, at_status, at_turns, at_elements, at_objects, at_to, at_level, at_outside, at_going, at_any, at_many}

-- ---- parts of instructions

called_steered : (o : Option Entry) (s : State) (stack : List Cell) (here : Here) (ps : List Passed) → Steered (λ b. called_at o (with_answers b s) stack here ps)
called_steered None s stack here ps = straight (λ c a. refl)
called_steered (Some e) s stack here ps = performing _ _ (begun_regular ps e.initial here) (λ b c a x w. refl)

returned_steered : (frames : List Frame) (s : State) (v : Value) → Steered (λ b. returned frames (with_answers b s) v)
returned_steered [] s v = straight (λ c a. refl)
returned_steered (f ∷ fs) s v = performing _ _ (does_regular _) (λ b c a x w. refl)

outward_steered : (frames : List Frame) (s : State) → Steered (λ b. outward frames (with_answers b s))
outward_steered [] s = straight (λ c a. refl)
outward_steered (f ∷ fs) s = straight (λ c a. refl)

routine_steered : (pcs : List ℕ) (t : ℕ) (go : (ℕ → Bool) → ℕ → Next) (none : (ℕ → Bool) → Next) → ((pc : ℕ) → Steered (λ b. go b pc)) → Steered none →
    Steered (λ b. routine_at pcs t (go b) (none b))
routine_steered [] t go none h k = k
routine_steered (pc ∷ pcs) t go none h k = if_steered (nat_eq t (length pcs)) (h pc) (routine_steered pcs t go none h k)

departs_steered : (flow : Flow) (cycle exit : ℕ) (s : State) (stack : List Cell) → Steered (λ b. departs flow cycle exit (with_answers b s) stack)
departs_steered Onward cycle exit s stack = straight (λ c a. refl)
departs_steered Cycled cycle exit s stack = straight (λ c a. refl)
departs_steered Left cycle exit s stack = straight (λ c a. refl)
departs_steered (Returned place) cycle exit s stack = straight (λ c a. refl)

branches_steered : (old v : Value) (other unallocated : ℕ) (s : State) → Steered (λ b. branches old v other unallocated (with_answers b s))
branches_steered (Allocated old) v other unallocated s = if_steered (conforms (spans_of old) v) (straight (λ c a. refl)) (straight (λ c a. refl))
branches_steered old v other unallocated s = straight (λ c a. refl)

turn_steered : (k : ℕ) (step : ℤ) (d : ℕ) (s : State) (stack : List Cell) → Steered (λ b. next_turn_at k step d (with_answers b s) stack)
turn_steered zero step d s stack = straight (λ c a. refl)
turn_steered (suc k) step d s stack = straight (λ c a. refl)

element_steered : (ps : List Path) (d : ℕ) (r : Reference) (s : State) (stack : List Cell) → Steered (λ b. next_element ps d r (with_answers b s) stack)
element_steered [] d r s stack = straight (λ c a. refl)
element_steered (p ∷ ps) d r s stack = straight (λ c a. refl)

object_steered : (rs : List Reference) (d : ℕ) (s : State) (stack : List Cell) → Steered (λ b. next_object rs d (with_answers b s) stack)
object_steered [] d s stack = straight (λ c a. refl)
object_steered (r ∷ rs) d s stack = straight (λ c a. refl)

argument_steered : (rs : List Reference) (is_held : Bool) (d : ℕ) (s : State) (stack : List Cell) → Steered (λ b. next_argument rs is_held d (with_answers b s) stack)
argument_steered [] is_held d s stack = straight (λ c a. refl)
argument_steered (r ∷ rs) is_held d s stack = if_steered is_held (straight (λ c a. refl)) (straight (λ c a. refl))

failed_steered : (x : Option RunError) (d : ℕ) (s : State) (stack : List Cell) → Steered (λ b. skips_failed x d (with_answers b s) stack)
failed_steered None d s stack = straight (λ c a. refl)
failed_steered (Some error) d s stack = straight (λ c a. refl)

-- the array that an array constructor makes
abbrev array_of : List Passed → Value
array_of ps = Array (record { lower = pos 1; extent = length (given ps) } ∷ []) (joined (given ps))

-- ---- instructions

module _ (limit : ℕ) (g : Setting) (code : Code) where
  pub act_steered : (i : Instruction) (v : Value) (here : Here) (s : State) → Steered (λ b. act limit g code i v here (with_answers b s))
  act_steered (i.Push c) v here s = straight (λ c a. refl)
  act_steered i.Plain v here s = at_datum s.stack (λ x st. straight (λ c a. refl))
  act_steered (i.Unary c t) v here s = at_datum s.stack (λ x st. performing _ _ (change_regular c t x here.place) (λ b c a x w. refl))
  act_steered (i.Binary c t) v here s = at_datum s.stack (λ y st. at_datum st (λ x st. performing _ _ (apply_regular c t x y here.place) (λ b c a x w. refl)))
  act_steered (i.Array k) v here s = at_many argument_of k [] s.stack (λ ps st. performing _ _ (built_regular (array_of ps) here) (λ b c a x w. refl))
  act_steered (i.Structure t k) v here s = at_many argument_of k [] s.stack (λ ps st. performing _ _ (bind_regular (structure_regular _ 0 ps here) (λ vs. built_regular (Composite vs) here)) (λ b c a x w. refl))
  act_steered (i.Call f k) v here s = at_many argument_of k [] s.stack (λ ps st.
      if_steered (nat_lt (length s.frames) limit) (called_steered (slice_get code.procedures f) s st here ps) (straight (λ c a. refl)))
  act_steered i.Result v here s = at_datum s.stack (λ x st. performing _ _ (result_regular x here) (λ b c a x w. refl))
  act_steered i.IsAllocated v here s = at_object s.stack (λ r st. performing _ _ (looks_regular _) (λ b c a x w. refl))
  act_steered i.BoundsOfValue v here s = at_datum s.stack (λ x st. straight (λ c a. refl))
  act_steered i.BoundsOfVariable v here s = at_object s.stack (λ r st. straight (λ c a. refl))
  act_steered i.Size v here s = at_bounds s.stack (λ ss st. performing _ _ (converted_regular _ _ here.place) (λ b c a x w. refl))
  act_steered (i.Bound q) v here s = at_datum s.stack (λ x st. at_bounds st (λ ss st. performing _ _ (asked_regular q ss _ here) (λ b c a x w. refl)))
  act_steered i.Load v here s = at_object s.stack (λ r st. performing _ _ (read_regular r here) (λ b c a x w. refl))
  act_steered (i.PassValue k) v here s = at_datum s.stack (λ x st. performing _ _ (claim_for_regular x here) (λ b c a x w. refl))
  act_steered (i.PassVariable k) v here s = at_object s.stack (λ r st. straight (λ c a. refl))
  act_steered (i.Refer x) v here s = performing _ _ (named_regular g x here) (λ b c a x w. refl)
  act_steered (i.Component k) v here s = at_object s.stack (λ r st. performing _ _ (looks_regular _) (λ b c a x w. refl))
  act_steered (i.ComponentOf k) v here s = at_object s.stack (λ r st. performing _ _ (looks_regular _) (λ b c a x w. refl))
  act_steered i.Contents v here s = at_object s.stack (λ r st. performing _ _ (contents_regular r here) (λ b c a x w. refl))
  act_steered (i.Select is_opened k) v here s = at_many choice_of k [] s.stack (λ cs st. at_object st (λ r st.
      performing _ _ (selects_regular is_opened cs r here) (λ b c a x w. refl)))
  act_steered (i.SelectOf is_opened n k) v here s = at_many choice_of k [] s.stack (λ cs st. at_object st (λ q st. at_object st (λ r st.
      performing _ _ (reach_regular r.reach (selects_regular is_opened cs q here) (picks_in_each_regular _ q cs here)) (λ b c a x w. refl))))
  act_steered i.Subscript v here s = at_datum s.stack (λ x st. straight (λ c a. refl))
  act_steered i.Limit v here s = at_datum s.stack (λ x st. straight (λ c a. refl))
  act_steered i.NoLimit v here s = straight (λ c a. refl)
  act_steered i.Triplet v here s = at_datum s.stack (λ z st. at_bound st (λ upper st. at_bound st (λ lower st. straight (λ c a. refl))))
  act_steered i.TestShape v here s = at_object s.stack (λ r st. at_datum st (λ x st. performing _ _ (tested_regular _ _ here) (λ b c a x w. refl)))
  act_steered (i.ByState other unallocated) v here s = at_object s.stack (λ r st. at_datum st (λ x st. branches_steered (get s.world.store r.path) x other unallocated s))
  act_steered (i.TestRank rank) v here s = at_object s.stack (λ r st. at_datum st (λ x st. performing _ _ (tested_regular _ _ here) (λ b c a x w. refl)))
  act_steered (i.New rank) v here s = at_object s.stack (λ r st. at_datum st (λ x st.
      performing _ _ (bind_regular (claim_regular here) (λ done. does_regular _)) (λ b c a x w. refl)))
  act_steered (i.Take of) v here s = at_object s.stack (λ r st. at_datum st (λ x st.
      performing _ _ (bind_regular (converted_regular of x here.place) (λ x. bind_regular (claim_for_regular x here) (λ done. does_regular _))) (λ b c a x w. refl)))
  act_steered (i.Fill of) v here s = at_object s.stack (λ r st. at_datum st (λ x st.
      performing _ _ (bind_regular (converted_regular of x here.place) (λ x. does_regular _)) (λ b c a x w. refl)))
  act_steered i.Begin v here s = performing _ _ (does_regular _) (λ b c a x w. refl)
  act_steered i.Drop v here s = at_any s.stack (λ c st. straight (λ c a. refl))
  act_steered (i.Unwind k) v here s = straight (λ c a. refl)
  act_steered i.Swap v here s = at_any s.stack (λ c st. at_any st (λ d st. straight (λ c a. refl)))
  act_steered i.LendBoth v here s = at_object s.stack (λ to st. at_object st (λ from st. straight (λ c a. refl)))
  act_steered i.TakeOver v here s = at_object s.stack (λ to st. at_object st (λ from st.
      performing _ _ (bind_regular (looks_regular _) (λ x. take_over_regular g 0 no_calls from to x here)) (λ b c a x w. refl)))
  act_steered i.Dimension v here s = at_datum s.stack (λ u st. at_datum st (λ l st. straight (λ c a. refl)))
  act_steered (i.Allocate rank k) v here s = at_many extent_of k [] s.stack (λ ss st. at_object st (λ h st.
      performing _ _ (allocate_regular rank v h ss here) (λ b c a x w. refl)))
  act_steered (i.TestFree d) v here s = at_object s.stack (λ h st. if_steered (is_allocated (get s.world.store h.path))
      (if_steered (is_pinned h.path here.lent) (straight (λ c a. refl)) (straight (λ c a. refl))) (straight (λ c a. refl)))
  act_steered i.NoError v here s = straight (λ c a. refl)
  act_steered (i.SkipIfFailed d) v here s = at_status s.stack (λ x st. failed_steered x d s st)
  act_steered i.Check v here s = at_status s.stack (λ x st. performing _ _ (checked_regular x here) (λ b c a x w. refl))
  act_steered i.StoreStatus v here s = at_object s.stack (λ r st. at_status st (λ x st. performing _ _ (does_regular _) (λ b c a x w. refl)))
  act_steered i.PrintValue v here s = at_datum s.stack (λ x st. performing _ _ (print_regular x) (λ b c a x w. refl))
  act_steered (i.PrintByte b) v here s = performing _ _ (prints_regular _) (λ b c a x w. refl)
  act_steered (i.Stop number) v here s = straight (λ c a. refl)
  act_steered i.SetPlace v here s = straight (λ c a. refl)
  act_steered (i.GoOn d) v here s = straight (λ c a. refl)
  act_steered (i.GoBack d) v here s = straight (λ c a. refl)
  act_steered (i.SkipIfFalse d) v here s = at_datum s.stack (λ x st. if_steered (truth_of x) (straight (λ c a. refl)) (straight (λ c a. refl)))
  act_steered (i.SkipIfTrue d) v here s = at_datum s.stack (λ x st. if_steered (truth_of x) (straight (λ c a. refl)) (straight (λ c a. refl)))
  act_steered (i.Meets r) v here s = straight (λ c a. refl)
  act_steered i.Selecting v here s = at_datum s.stack (λ x st. straight (λ c a. refl))
  act_steered (i.Leave by d) v here s = at_outside s.stack (λ outer st. straight (λ c a. refl))
  act_steered (i.Depart cycle exit) v here s = at_going s.stack (λ flow st. departs_steered flow cycle exit s st)
  act_steered i.SelectVariable v here s = at_object s.stack (λ r st. straight (λ c a. refl))
  act_steered (i.SelectValue of) v here s = at_datum s.stack (λ x st. performing _ _ (claim_for_regular x here) (λ b c a x w. refl))
  act_steered (i.Associate k) v here s = at_many selector_of k [] s.stack (λ found st.
      performing _ _ (bind_regular (looks_regular _) (λ level. bind_regular (does_regular _) (λ done. gives_regular level))) (λ b c a x w. refl))
  act_steered i.Associated v here s = at_going s.stack (λ flow st. at_level st (λ level rs st. straight (λ c a. refl)))
  act_steered (i.NextObject d) v here s = at_objects s.stack (λ rs st. object_steered rs d s st)
  act_steered i.EndAssociate v here s = at_objects s.stack (λ rs st. at_going st (λ flow st. at_level st (λ level rs st.
      performing _ _ (does_regular _) (λ b c a x w. refl))))
  act_steered (i.Convert of) v here s = at_datum s.stack (λ x st. performing _ _ (converted_regular of x here.place) (λ b c a x w. refl))
  act_steered i.TestStep v here s = at_datum s.stack (λ x st. performing _ _ (unless_regular (number_of x) here) (λ b c a x w. refl))
  act_steered i.CountBegin v here s = at_object s.stack (λ r st. at_datum st (λ step st. at_datum st (λ last st. at_datum st (λ first st.
      performing _ _ (does_regular _) (λ b c a x w. refl)))))
  act_steered (i.CountNext d) v here s = at_turns s.stack (λ k step st. turn_steered k step d s st)
  act_steered (i.CountUp of) v here s = at_object s.stack (λ r st. at_turns st (λ k step rest.
      performing _ _ (bind_regular (looks_regular _) (λ old. bind_regular (converted_regular of _ here.place) (λ x. does_regular _))) (λ b c a x w. refl)))
  act_steered i.Lend v here s = at_object s.stack (λ r st. straight (λ c a. refl))
  act_steered i.Unlend v here s = straight (λ c a. refl)
  act_steered (i.SkipUnlessRank rank d) v here s = at_object s.stack (λ r st. if_steered (nat_eq rank (length (spans r.reach))) (straight (λ c a. refl)) (straight (λ c a. refl)))
  act_steered i.PassObject v here s = at_object s.stack (λ r st. straight (λ c a. refl))
  act_steered (i.Routine t) v here s = at_object s.stack (λ r st. routine_steered code.routines t _ _ (λ pc. straight (λ c a. refl)) (straight (λ c a. refl)))
  act_steered i.Back v here s = at_object s.stack (λ r st. at_to st (λ pc place st. straight (λ c a. refl)))
  act_steered (i.WorkComponent k) v here s = at_object s.stack (λ r st. performing _ _ (looks_regular _) (λ b c a x w. refl))
  act_steered i.WalkBegin v here s = at_object s.stack (λ r st. straight (λ c a. refl))
  act_steered (i.WalkNext d) v here s = at_elements s.stack (λ ps st. at_object st (λ r st. element_steered ps d r s st))
  act_steered (i.SkipUnlessAllocated d) v here s = at_object s.stack (λ r st. if_steered (is_allocated (get s.world.store r.path)) (straight (λ c a. refl)) (straight (λ c a. refl)))
  act_steered i.OpenContents v here s = at_object s.stack (λ r st. performing _ _ (opens_regular r here) (λ b c a x w. refl))
  act_steered i.Free v here s = at_object s.stack (λ r st. performing _ _ (does_regular _) (λ b c a x w. refl))
  act_steered i.Clear v here s = at_object s.stack (λ r st. performing _ _ (does_regular _) (λ b c a x w. refl))
  act_steered i.Set v here s = at_object s.stack (λ r st. performing _ _ (does_regular _) (λ b c a x w. refl))
  act_steered i.Discard v here s = straight (λ c a. refl)
  act_steered i.Dummies v here s = straight (λ c a. refl)
  act_steered (i.ResultOf x) v here s = performing _ _ (bind_regular (looks_regular _) (λ y. built_regular y here)) (λ b c a x w. refl)
  act_steered i.Outward v here s = outward_steered s.frames s
  act_steered (i.NextArgument k d) v here s = at_objects s.stack (λ rs st. argument_steered rs (is_held (passed_at k (passed_in s.frames))) d s st)
  act_steered i.Return v here s = at_objects s.stack (λ rs st. at_datum st (λ x st. returned_steered s.frames s x))
  act_steered i.Finish v here s = straight (λ c a. refl)

  pub line_steered : (o : Option Line) (s : State) → Steered (λ b. does_line limit g code o (with_answers b s))
  line_steered None s = straight (λ c a. refl)
  line_steered (Some l) s = act_steered l.act l.value (placed l.place s.here) s
