-- Each step keeps to sorts.
use Rattle.std.specs.Prelude.{pos, ◌+ℤ◌, slice_index_or}
use Rattle.f3_meaning_whole.specs.Value.{Value, Number, Truth, Composite, Array, Unallocated, Allocated, joined, number_of, truth_of, is_allocated, count, conforms, spans_of}
use Rattle.f3_meaning_whole.specs.Store.{Path, get}
use Rattle.f3_meaning_whole.specs.Reference.{Selected, Language, Reference, spans, is_pinned}
use Rattle.f3_meaning_whole.specs.declared.run_error.RunError.{RunError}
use Rattle.f3_meaning_whole.specs.declared.run_error.RunError.TheVariants.{NotAllocated, ShapesDiffer}
use Rattle.f3_meaning_whole.specs.Ran.{Event, ◌>>=◌, gives, looks, prints_bytes}
use Rattle.f3_meaning_whole.specs.Arithmetic.{apply, change_of, converted}
use Rattle.f3_meaning_whole.specs.Shape.{Whole}
use Rattle.f3_meaning_whole.specs.Act.{Setting, Here, Passed, set, clear, begins, enter, leave, claim, claim_for, named, component, component_of, contents, read, picks_in_each, structure, components_of, given, passed_at}
use Rattle.f3_meaning_whole.specs.Eval.{result, spans_of_component, asked, built, by_reach}
use Rattle.f3_meaning_whole.specs.Exec.{Flow, Onward, Cycled, Left, Returned, unless_zero, print_value, vacant, held_by, status_number, take_over}
use Rattle.f3_code.specs.Exec.{allocate, is_held, result_at}
use Rattle.f3_code.specs.declared.instruction.Instruction.{Instruction}
use Rattle.f3_code.specs.State.{Line, placed, Entry, Code, Cell, Object, To, Frame, State, Next, Goes, Stays, Stuck}
use Rattle.std.proofs.Common.{◌++◌, ◌≡◌, ℕ, zero, suc, ◌+◌, ℤ, Bool, List, [], ◌∷◌, length, drop, Option, None, Some, refl, subst, slice_get, nat_eq, nat_lt}
use Rattle.f3_code.specs.Machine.{act, does_line, step, begun, selects, opens, checked, tested, no_calls, called_at, returned, outward, passed_in, routine_at, departs, branches, next_turn_at, next_element, next_object, next_argument, skips_failed, argument_of, choice_of, extent_of, selector_of}
use Rattle.f3_sorts.specs.Effect.{Sort, sort_of, times}
use Rattle.f3_sorts.specs.Effect as sort
use Rattle.f3_sorts.specs.Sorts.{Lacks, LineLacks, RoutinesBegin, IsAt, AreSorts, FramesFit, Fits}
use Rattle.f3_sorts.proofs.Ending.{allocate_ends, apply_ends, asked_ends, begun_ends, bind_ends, built_ends, change_ends, checked_ends, claim_ends, claim_for_ends, contents_ends, converted_ends, does_ends, gives_ends, looks_ends, named_ends, opens_ends, picks_in_each_ends, print_ends, prints_ends, reach_ends, read_ends, result_ends, selects_ends, structure_ends, take_over_ends, tested_ends, unless_ends}
use Rattle.f3_sorts.proofs.Keeping.{is_argument, is_choice, is_extent, is_selector, at_back, FitsNext, Keeps, stays_so, Has, took, more, on_top, fit, goes_there, performing, if_keeps, at_datum, at_object, at_bound, at_bounds, at_status, at_elements, at_objects, at_outside, at_going, at_turns, at_level, at_any, at_many}
use Rattle.f3_program.specs.declared.declarations.Base.TheVariants as base
use Rattle.f3_code.specs.declared.instruction.Instruction.TheVariants as i

module _ (limit : ℕ) (g : Setting) (code : Code) (sorts : ℕ → List Sort) (are : AreSorts sorts code) where
  act_keeps : (x : Instruction) (v : Value) (here : Here) (s : State) → Fits sorts s → IsAt sorts s.pc x → Keeps sorts (Lacks x s) (act limit g code x v here s)
  act_keeps (i.Push c) v here s fits lead =
      goes_there sorts _ lead.next (on_top sorts refl (took sorts s.stack lead.before fits.stack)) fits.frames
  act_keeps i.Plain v here s fits lead =
      at_datum sorts _ s.stack (took sorts s.stack lead.before fits.stack) (λ x st0 p0.
      goes_there sorts _ lead.next (on_top sorts refl p0) fits.frames)
  act_keeps (i.Unary c t) v here s fits lead =
      at_datum sorts _ s.stack (took sorts s.stack lead.before fits.stack) (λ x st0 p0.
      performing sorts _ (change_of c t x here.place) s.world (change_ends c t x here.place) (λ done w. fit sorts lead.next (on_top sorts refl p0) fits.frames))
  act_keeps (i.Binary c t) v here s fits lead =
      at_datum sorts _ s.stack (took sorts s.stack lead.before fits.stack) (λ y st0 p0.
      at_datum sorts _ st0 p0 (λ x st1 p1. performing sorts _ (apply c t x y here.place) s.world (apply_ends c t x y here.place) (λ done w.
      fit sorts lead.next (on_top sorts refl p1) fits.frames)))
  act_keeps (i.Array k) v here s fits lead =
      at_many sorts _ sort.Argument argument_of is_argument k [] s.stack (took sorts s.stack lead.before fits.stack) (λ ps st0 p0.
      performing sorts _ (built (Array (record { lower = pos 1; extent = length (given ps) } ∷ []) (joined (given ps))) here) s.world (built_ends (Array (record { lower = pos 1; extent = length (given ps) } ∷ []) (joined (given ps))) here) (λ done w.
      fit sorts lead.next (on_top sorts refl p0) fits.frames))
  act_keeps (i.Structure t k) v here s fits lead =
      at_many sorts _ sort.Argument argument_of is_argument k [] s.stack (took sorts s.stack lead.before fits.stack) (λ ps st0 p0.
      performing sorts _ (structure (components_of (slice_index_or g.shapes t Whole)) 0 ps here >>= λ vs. built (Composite vs) here) s.world (bind_ends (structure_ends _ 0 ps here) (λ vs. built_ends (Composite vs) here)) (λ done w.
      fit sorts lead.next (on_top sorts refl p0) fits.frames))
  act_keeps (i.Call f n) v here s fits lead =
      at_many sorts _ sort.Argument argument_of is_argument n [] s.stack (took sorts s.stack lead.before fits.stack) (λ ps st p.
      if_keeps sorts _ (nat_lt (length s.frames) limit) (by_entry ps st p (slice_get code.procedures f) refl) (stays_so sorts _ tt))
    where
      by_entry : (ps : List Passed) (st : List Cell) → Has sorts lead.rest st → (o : Option Entry) → slice_get code.procedures f ≡ o →
          Keeps sorts (Lacks (i.Call f n) s) (called_at o s st here ps)
      by_entry ps st p None is = goes_there sorts _ lead.next (on_top sorts refl p) fits.frames
      by_entry ps st p (Some e) is =
          let empty : Has sorts [] [] = record { by = tt } in
          performing sorts _ (begun ps e.initial here) s.world (begun_ends ps e.initial here) (λ level w.
          fit sorts (are.procedures f e is) empty (lead.rest, lead.next, p.by, fits.frames))
  act_keeps i.Result v here s fits lead =
      at_datum sorts _ s.stack (took sorts s.stack lead.before fits.stack) (λ x st0 p0.
      performing sorts _ (result x here) s.world (result_ends x here) (λ done w. fit sorts lead.next (on_top sorts refl p0) fits.frames))
  act_keeps i.IsAllocated v here s fits lead =
      at_object sorts _ s.stack (took sorts s.stack lead.before fits.stack) (λ r st0 p0.
      performing sorts _ (looks (λ store. Truth (is_allocated (get store r.path)))) s.world (looks_ends _) (λ done w.
      fit sorts lead.next (on_top sorts refl p0) fits.frames))
  act_keeps i.BoundsOfValue v here s fits lead =
      at_datum sorts _ s.stack (took sorts s.stack lead.before fits.stack) (λ x st0 p0.
      goes_there sorts _ lead.next (on_top sorts refl p0) fits.frames)
  act_keeps i.BoundsOfVariable v here s fits lead =
      at_object sorts _ s.stack (took sorts s.stack lead.before fits.stack) (λ r st0 p0.
      goes_there sorts _ lead.next (on_top sorts refl p0) fits.frames)
  act_keeps i.Size v here s fits lead =
      at_bounds sorts _ s.stack (took sorts s.stack lead.before fits.stack) (λ ss st0 p0.
      performing sorts _ (converted base.Integer (Number (pos (count ss))) here.place) s.world (converted_ends _ _ here.place) (λ done w.
      fit sorts lead.next (on_top sorts refl p0) fits.frames))
  act_keeps (i.Bound q) v here s fits lead =
      at_datum sorts _ s.stack (took sorts s.stack lead.before fits.stack) (λ x st0 p0.
      at_bounds sorts _ st0 p0 (λ ss st1 p1. performing sorts _ (asked q ss (number_of x) here) s.world (asked_ends q ss _ here) (λ done w.
      fit sorts lead.next (on_top sorts refl p1) fits.frames)))
  act_keeps i.Load v here s fits lead =
      at_object sorts _ s.stack (took sorts s.stack lead.before fits.stack) (λ r st0 p0.
      performing sorts _ (read r here) s.world (read_ends r here) (λ done w. fit sorts lead.next (on_top sorts refl p0) fits.frames))
  act_keeps (i.PassValue k) v here s fits lead =
      at_datum sorts _ s.stack (took sorts s.stack lead.before fits.stack) (λ x st0 p0.
      performing sorts _ (claim_for x here) s.world (claim_for_ends x here) (λ done w. fit sorts lead.next (on_top sorts refl p0) fits.frames))
  act_keeps (i.PassVariable n) v here s fits lead =
      at_object sorts _ s.stack (took sorts s.stack lead.before fits.stack) (λ r st0 p0.
      goes_there sorts _ lead.next (on_top sorts refl p0) fits.frames)
  act_keeps (i.Refer x) v here s fits lead =
      performing sorts _ (named g x here) s.world (named_ends g x here) (λ done w.
      fit sorts lead.next (on_top sorts refl (took sorts s.stack lead.before fits.stack)) fits.frames)
  act_keeps (i.Component k) v here s fits lead =
      at_object sorts _ s.stack (took sorts s.stack lead.before fits.stack) (λ r st0 p0.
      performing sorts _ (component g k (Selected here.unit) r) s.world (looks_ends _) (λ done w. fit sorts lead.next (on_top sorts refl p0) fits.frames))
  act_keeps (i.ComponentOf k) v here s fits lead =
      at_object sorts _ s.stack (took sorts s.stack lead.before fits.stack) (λ r st0 p0.
      performing sorts _ (component g k (Selected here.unit) r) s.world (looks_ends _) (λ done w. fit sorts lead.next (on_top sorts refl (on_top sorts refl p0)) fits.frames))
  act_keeps i.Contents v here s fits lead =
      at_object sorts _ s.stack (took sorts s.stack lead.before fits.stack) (λ r st0 p0.
      performing sorts _ (contents r here) s.world (contents_ends r here) (λ done w. fit sorts lead.next (on_top sorts refl p0) fits.frames))
  act_keeps (i.Select is_opened k) v here s fits lead =
      at_many sorts _ sort.Choice choice_of is_choice k [] s.stack (more sorts (times k sort.Choice) (sort.Object ∷ []) lead.rest s.stack (took sorts s.stack lead.before fits.stack)) (λ cs st0 p0.
      at_object sorts _ st0 p0 (λ r st1 p1. performing sorts _ (selects is_opened cs r here) s.world (selects_ends is_opened cs r here) (λ done w.
      fit sorts lead.next (on_top sorts refl p1) fits.frames)))
  act_keeps (i.SelectOf is_opened n k) v here s fits lead =
      at_many sorts _ sort.Choice choice_of is_choice k [] s.stack (more sorts (times k sort.Choice) (sort.Object ∷ sort.Object ∷ []) lead.rest s.stack (took sorts s.stack lead.before fits.stack)) (λ cs st0 p0.
      at_object sorts _ st0 p0 (λ q st1 p1. at_object sorts _ st1 p1 (λ r st2 p2.
      performing sorts _ (by_reach r.reach (selects is_opened cs q here) (picks_in_each (spans_of_component (component_of g.program.types.items r.of n)) q cs here)) s.world (reach_ends r.reach (selects_ends is_opened cs q here) (picks_in_each_ends _ q cs here))
      (λ done w. fit sorts lead.next (on_top sorts refl p2) fits.frames))))
  act_keeps i.Subscript v here s fits lead =
      at_datum sorts _ s.stack (took sorts s.stack lead.before fits.stack) (λ x st0 p0.
      goes_there sorts _ lead.next (on_top sorts refl p0) fits.frames)
  act_keeps i.Limit v here s fits lead =
      at_datum sorts _ s.stack (took sorts s.stack lead.before fits.stack) (λ x st0 p0.
      goes_there sorts _ lead.next (on_top sorts refl p0) fits.frames)
  act_keeps i.NoLimit v here s fits lead =
      goes_there sorts _ lead.next (on_top sorts refl (took sorts s.stack lead.before fits.stack)) fits.frames
  act_keeps i.Triplet v here s fits lead =
      at_datum sorts _ s.stack (took sorts s.stack lead.before fits.stack) (λ z st0 p0.
      at_bound sorts _ st0 p0 (λ u st1 p1. at_bound sorts _ st1 p1 (λ l st2 p2.
      goes_there sorts _ lead.next (on_top sorts refl p2) fits.frames)))
  act_keeps i.TestShape v here s fits lead =
      at_object sorts _ s.stack (took sorts s.stack lead.before fits.stack) (λ r st0 p0.
      at_datum sorts _ st0 p0 (λ x st1 p1. performing sorts _ (tested (conforms (spans r.reach) x) ShapesDiffer here) s.world (tested_ends _ _ here)
      (λ done w. fit sorts lead.next (took sorts s.stack lead.before fits.stack) fits.frames)))
  act_keeps (i.ByState other unallocated) v here s fits lead =
      at_object sorts _ s.stack (took sorts s.stack lead.before fits.stack) (λ r st p.
      at_datum sorts _ st p (λ x st q. by_old (get s.world.store r.path) x))
    where
      by_old : (old x : Value) → Keeps sorts (Lacks (i.ByState other unallocated) s) (branches old x other unallocated s)
      by_old (Allocated old) x = if_keeps sorts _ (conforms (spans_of old) x)
          (goes_there sorts _ lead.next (took sorts s.stack lead.before fits.stack) fits.frames)
          (goes_there sorts _ lead.far.0 (took sorts s.stack lead.before fits.stack) fits.frames)
      by_old old x = goes_there sorts _ lead.far.1.0 (took sorts s.stack lead.before fits.stack) fits.frames
  act_keeps (i.TestRank rank) v here s fits lead =
      at_object sorts _ s.stack (took sorts s.stack lead.before fits.stack) (λ r st0 p0.
      at_datum sorts _ st0 p0 (λ x st1 p1. performing sorts _ (tested (nat_eq rank (length (spans_of x))) NotAllocated here) s.world (tested_ends _ _ here)
      (λ done w. fit sorts lead.next (took sorts s.stack lead.before fits.stack) fits.frames)))
  act_keeps (i.New rank) v here s fits lead =
      at_object sorts _ s.stack (took sorts s.stack lead.before fits.stack) (λ r st0 p0.
      at_datum sorts _ st0 p0 (λ x st1 p1.
      performing sorts _ (claim here >>= λ done. set r (Allocated (vacant rank (spans_of x) v)) here) s.world (bind_ends (claim_ends here) (λ done. does_ends _)) (λ done w.
      fit sorts lead.next (took sorts s.stack lead.before fits.stack) fits.frames)))
  act_keeps (i.Take of) v here s fits lead =
      at_object sorts _ s.stack (took sorts s.stack lead.before fits.stack) (λ r st0 p0.
      at_datum sorts _ st0 p0 (λ x st1 p1.
      performing sorts _ (converted of x here.place >>= λ x. claim_for x here >>= λ done. set r x here) s.world (bind_ends (converted_ends of x here.place) (λ x. bind_ends (claim_for_ends x here) (λ done. does_ends _))) (λ done w.
      fit sorts lead.next p1 fits.frames)))
  act_keeps (i.Fill of) v here s fits lead =
      at_object sorts _ s.stack (took sorts s.stack lead.before fits.stack) (λ r st0 p0.
      at_datum sorts _ st0 p0 (λ x st1 p1. performing sorts _ (converted of x here.place >>= λ x. set r x here) s.world (bind_ends (converted_ends of x here.place) (λ x. does_ends _)) (λ done w.
      fit sorts lead.next p1 fits.frames)))
  act_keeps i.Begin v here s fits lead =
      performing sorts _ (begins here) s.world (does_ends _) (λ done w.
      fit sorts lead.next (took sorts s.stack lead.before fits.stack) fits.frames)
  act_keeps i.Drop v here s fits lead =
      at_any sorts _ s.stack (took sorts s.stack lead.1.before fits.stack) (λ c st0 is p0. goes_there sorts _ lead.1.next p0 fits.frames)
  act_keeps (i.Unwind n) v here s fits lead =
      let p = dropped lead.0 lead.2.rest s.stack (took sorts s.stack lead.2.before fits.stack) in
      goes_there sorts _ lead.2.next (subst (λ k. Has sorts lead.2.rest (drop k s.stack)) lead.1 p) fits.frames
    where
      dropped : (xs rest : List Sort) (stack : List Cell) → Has sorts (xs ++ rest) stack → Has sorts rest (drop (length xs) stack)
      dropped [] rest stack h = h
      dropped (x ∷ xs) rest [] h = absurd h.by
      dropped (x ∷ xs) rest (c ∷ stack) h = dropped xs rest stack (record { by = h.by.1 })
  act_keeps i.Swap v here s fits lead =
      at_any sorts _ s.stack (took sorts s.stack lead.2.before fits.stack) (λ c st0 is p0. at_any sorts _ st0 p0 (λ d st1 is' p1.
      goes_there sorts _ lead.2.next (on_top sorts is' (on_top sorts is p1)) fits.frames))
  act_keeps i.LendBoth v here s fits lead =
      at_object sorts _ s.stack (took sorts s.stack lead.before fits.stack) (λ to st0 p0.
      at_object sorts _ st0 p0 (λ from st1 p1.
      goes_there sorts _ lead.next (took sorts s.stack lead.before fits.stack) fits.frames))
  act_keeps i.TakeOver v here s fits lead =
      at_object sorts _ s.stack (took sorts s.stack lead.before fits.stack) (λ to st0 p0.
      at_object sorts _ st0 p0 (λ from st1 p1.
      performing sorts _ (looks (λ store. get store from.path) >>= λ x. take_over g 0 no_calls from to x here) s.world (bind_ends (looks_ends _) (λ x. take_over_ends g 0 no_calls from to x here)) (λ done w.
      fit sorts lead.next p1 fits.frames)))
  act_keeps i.Dimension v here s fits lead =
      at_datum sorts _ s.stack (took sorts s.stack lead.before fits.stack) (λ u st0 p0.
      at_datum sorts _ st0 p0 (λ l st1 p1. goes_there sorts _ lead.next (on_top sorts refl p1) fits.frames))
  act_keeps (i.Allocate rank k) v here s fits lead =
      at_many sorts _ sort.Extent extent_of is_extent k [] s.stack (more sorts (times k sort.Extent) (sort.Object ∷ []) lead.rest s.stack (took sorts s.stack lead.before fits.stack)) (λ ss st0 p0.
      at_object sorts _ st0 p0 (λ h st1 p1. performing sorts _ (allocate rank v h ss here) s.world (allocate_ends rank v h ss here) (λ done w.
      fit sorts lead.next (on_top sorts refl p1) fits.frames)))
  act_keeps (i.TestFree d) v here s fits lead =
      at_object sorts _ s.stack (took sorts s.stack lead.before fits.stack) (λ h st p.
      if_keeps sorts _ (is_allocated (get s.world.store h.path))
      (if_keeps sorts _ (is_pinned h.path here.lent) (goes_there sorts _ lead.far.0 (on_top sorts refl p) fits.frames)
      (goes_there sorts _ lead.next (took sorts s.stack lead.before fits.stack) fits.frames))
      (goes_there sorts _ lead.far.0 (on_top sorts refl p) fits.frames))
  act_keeps i.NoError v here s fits lead =
      goes_there sorts _ lead.next (on_top sorts refl (took sorts s.stack lead.before fits.stack)) fits.frames
  act_keeps (i.SkipIfFailed d) v here s fits lead =
      at_status sorts _ s.stack (took sorts s.stack lead.before fits.stack) (λ x st p. failed_keeps x st p)
    where
      failed_keeps : (x : Option RunError) (st : List Cell) → Has sorts lead.rest st → Keeps sorts (Lacks (i.SkipIfFailed d) s) (skips_failed x d s st)
      failed_keeps None st p = goes_there sorts _ lead.next p fits.frames
      failed_keeps (Some error) st p = goes_there sorts _ lead.far.0 (on_top sorts refl p) fits.frames
  act_keeps i.Check v here s fits lead =
      at_status sorts _ s.stack (took sorts s.stack lead.before fits.stack) (λ x st0 p0.
      performing sorts _ (checked x here) s.world (checked_ends x here) (λ done w. fit sorts lead.next p0 fits.frames))
  act_keeps i.StoreStatus v here s fits lead =
      at_object sorts _ s.stack (took sorts s.stack lead.before fits.stack) (λ r st0 p0.
      at_status sorts _ st0 p0 (λ x st1 p1. performing sorts _ (set r (Number (pos (status_number x))) here) s.world (does_ends _) (λ done w.
      fit sorts lead.next p1 fits.frames)))
  act_keeps i.PrintValue v here s fits lead =
      at_datum sorts _ s.stack (took sorts s.stack lead.before fits.stack) (λ x st0 p0.
      performing sorts _ (print_value x) s.world (print_ends x) (λ done w. fit sorts lead.next p0 fits.frames))
  act_keeps (i.PrintByte b) v here s fits lead =
      performing sorts _ (prints_bytes (b ∷ [])) s.world (prints_ends _) (λ done w.
      fit sorts lead.next (took sorts s.stack lead.before fits.stack) fits.frames)
  act_keeps (i.Stop number) v here s fits lead = stays_so sorts _ tt
  act_keeps i.SetPlace v here s fits lead =
      goes_there sorts _ lead.next (took sorts s.stack lead.before fits.stack) fits.frames
  act_keeps (i.GoOn d) v here s fits lead =
      goes_there sorts _ lead.far.0 (took sorts s.stack lead.before fits.stack) fits.frames
  act_keeps (i.GoBack d) v here s fits lead = goes_there sorts _ lead (took sorts s.stack refl fits.stack) fits.frames
  act_keeps (i.SkipIfFalse d) v here s fits lead =
      at_datum sorts _ s.stack (took sorts s.stack lead.before fits.stack) (λ x st0 p0.
      if_keeps sorts _ (truth_of x) (goes_there sorts _ lead.next p0 fits.frames)
      (goes_there sorts _ lead.far.0 p0 fits.frames))
  act_keeps (i.SkipIfTrue d) v here s fits lead =
      at_datum sorts _ s.stack (took sorts s.stack lead.before fits.stack) (λ x st0 p0.
      if_keeps sorts _ (truth_of x) (goes_there sorts _ lead.far.0 p0 fits.frames)
      (goes_there sorts _ lead.next p0 fits.frames))
  act_keeps (i.Meets r) v here s fits lead =
      goes_there sorts _ lead.next (on_top sorts refl (took sorts s.stack lead.before fits.stack)) fits.frames
  act_keeps i.Selecting v here s fits lead =
      at_datum sorts _ s.stack (took sorts s.stack lead.before fits.stack) (λ x st0 p0.
      goes_there sorts _ lead.next (on_top sorts refl p0) fits.frames)
  act_keeps (i.Leave by d) v here s fits lead =
      at_outside sorts _ s.stack (took sorts s.stack lead.before fits.stack) (λ outer st0 p0.
      goes_there sorts _ lead.far.0 (on_top sorts refl p0) fits.frames)
  act_keeps (i.Depart cycle exit) v here s fits lead =
      at_going sorts _ s.stack (took sorts s.stack lead.before fits.stack) (λ flow st p. departs_keeps flow st p)
    where
      departs_keeps : (flow : Flow) (st : List Cell) → Has sorts lead.rest st → Keeps sorts (Lacks (i.Depart cycle exit) s) (departs flow cycle exit s st)
      departs_keeps Onward st p = goes_there sorts _ lead.far.0 p fits.frames
      departs_keeps Cycled st p = goes_there sorts _ lead.far.1.0 p fits.frames
      departs_keeps Left st p = goes_there sorts _ lead.far.1.1.0 p fits.frames
      departs_keeps (Returned place) st p = goes_there sorts _ lead.next p fits.frames
  act_keeps i.SelectVariable v here s fits lead =
      at_object sorts _ s.stack (took sorts s.stack lead.before fits.stack) (λ r st0 p0.
      goes_there sorts _ lead.next (on_top sorts refl p0) fits.frames)
  act_keeps (i.SelectValue of) v here s fits lead =
      at_datum sorts _ s.stack (took sorts s.stack lead.before fits.stack) (λ x st0 p0.
      performing sorts _ (claim_for x here) s.world (claim_for_ends x here) (λ done w. fit sorts lead.next (on_top sorts refl p0) fits.frames))
  act_keeps (i.Associate k) v here s fits lead =
      at_many sorts _ sort.Selector selector_of is_selector k [] s.stack (took sorts s.stack lead.before fits.stack) (λ found st0 p0.
      performing sorts _ (looks (λ store. length store.levels) >>= λ level. enter (held_by found) >>= λ done. gives level) s.world (bind_ends (looks_ends _) (λ level. bind_ends (does_ends _) (λ done. gives_ends level))) (λ done w.
      fit sorts lead.next (on_top sorts refl (on_top sorts refl p0)) fits.frames))
  act_keeps i.Associated v here s fits lead =
      at_going sorts _ s.stack (took sorts s.stack lead.before fits.stack) (λ flow st0 p0.
      at_level sorts _ st0 p0 (λ level rs st1 p1.
      goes_there sorts _ lead.next (on_top sorts refl (took sorts s.stack lead.before fits.stack)) fits.frames))
  act_keeps (i.NextObject d) v here s fits lead =
      at_objects sorts _ s.stack (took sorts s.stack lead.before fits.stack) (λ rs st p. object_keeps rs st p)
    where
      object_keeps : (rs : List Reference) (st : List Cell) → Has sorts lead.rest st → Keeps sorts (Lacks (i.NextObject d) s) (next_object rs d s st)
      object_keeps [] st p = goes_there sorts _ lead.far.0 (on_top sorts refl p) fits.frames
      object_keeps (r ∷ rs) st p = goes_there sorts _ lead.next (on_top sorts refl (on_top sorts refl p)) fits.frames
  act_keeps i.EndAssociate v here s fits lead =
      at_objects sorts _ s.stack (took sorts s.stack lead.before fits.stack) (λ rs st0 p0.
      at_going sorts _ st0 p0 (λ flow st1 p1. at_level sorts _ st1 p1 (λ level rs st2 p2.
      performing sorts _ (leave level) s.world (does_ends _) (λ done w. fit sorts lead.next (on_top sorts refl p2) fits.frames))))
  act_keeps (i.Convert of) v here s fits lead =
      at_datum sorts _ s.stack (took sorts s.stack lead.before fits.stack) (λ x st0 p0.
      performing sorts _ (converted of x here.place) s.world (converted_ends of x here.place) (λ done w. fit sorts lead.next (on_top sorts refl p0) fits.frames))
  act_keeps i.TestStep v here s fits lead =
      at_datum sorts _ s.stack (took sorts s.stack lead.before fits.stack) (λ x st0 p0.
      performing sorts _ (unless_zero (number_of x) here) s.world (unless_ends (number_of x) here) (λ done w.
      fit sorts lead.next (took sorts s.stack lead.before fits.stack) fits.frames))
  act_keeps i.CountBegin v here s fits lead =
      at_object sorts _ s.stack (took sorts s.stack lead.before fits.stack) (λ r st0 p0.
      at_datum sorts _ st0 p0 (λ step st1 p1. at_datum sorts _ st1 p1 (λ last st2 p2.
      at_datum sorts _ st2 p2 (λ first st3 p3. performing sorts _ (set r first here) s.world (does_ends _) (λ done w.
      fit sorts lead.next (on_top sorts refl p3) fits.frames)))))
  act_keeps (i.CountNext d) v here s fits lead =
      at_turns sorts _ s.stack (took sorts s.stack lead.before fits.stack) (λ n by st p. turn_keeps n by st p)
    where
      turn_keeps : (n : ℕ) (by : ℤ) (st : List Cell) → Has sorts lead.rest st → Keeps sorts (Lacks (i.CountNext d) s) (next_turn_at n by d s st)
      turn_keeps zero by st p = goes_there sorts _ lead.far.0 (on_top sorts refl p) fits.frames
      turn_keeps (suc n) by st p = goes_there sorts _ lead.next (on_top sorts refl p) fits.frames
  act_keeps (i.CountUp of) v here s fits lead =
      at_object sorts _ s.stack (took sorts s.stack lead.before fits.stack) (λ r st0 p0.
      at_turns sorts _ st0 p0 (λ k step st1 p1.
      performing sorts _ (looks (λ store. get store r.path) >>= λ old. converted of (Number (number_of old +ℤ step)) here.place >>= λ x. set r x here) s.world (bind_ends (looks_ends _) (λ old. bind_ends (converted_ends of _ here.place) (λ x. does_ends _)))
      (λ done w. fit sorts lead.next p0 fits.frames)))
  act_keeps i.Lend v here s fits lead =
      at_object sorts _ s.stack (took sorts s.stack lead.before fits.stack) (λ r st0 p0.
      goes_there sorts _ lead.next (took sorts s.stack lead.before fits.stack) fits.frames)
  act_keeps i.Unlend v here s fits lead =
      goes_there sorts _ lead.next (took sorts s.stack lead.before fits.stack) fits.frames
  act_keeps (i.SkipUnlessRank rank d) v here s fits lead =
      at_object sorts _ s.stack (took sorts s.stack lead.before fits.stack) (λ r st0 p0.
      if_keeps sorts _ (nat_eq rank (length (spans r.reach)))
      (goes_there sorts _ lead.next (took sorts s.stack lead.before fits.stack) fits.frames)
      (goes_there sorts _ lead.far.0 (took sorts s.stack lead.before fits.stack) fits.frames))
  act_keeps i.PassObject v here s fits lead =
      at_object sorts _ s.stack (took sorts s.stack lead.before fits.stack) (λ r st0 p0.
      goes_there sorts _ lead.next (on_top sorts refl (took sorts s.stack lead.before fits.stack)) fits.frames)
  act_keeps (i.Routine t) v here s fits lead =
      at_object sorts _ s.stack (took sorts s.stack lead.before fits.stack) (λ r st p. routine_keeps code.routines
      (λ pc. Goes [] (record { pc = pc; stack = Object r ∷ To (s.pc + 1) s.here.place ∷ st; here = here; frames = s.frames; world = s.world }))
      (Goes [] (record { pc = s.pc + 1; stack = s.stack; here = s.here; frames = s.frames; world = s.world }))
      (λ pc one.
      let under : Has sorts [] (To (s.pc + 1) s.here.place ∷ st) = record { by = (lead.rest, lead.next, p.by) } in
      goes_there sorts _ one (on_top sorts refl under) fits.frames)
      (goes_there sorts _ lead.next (took sorts s.stack lead.before fits.stack) fits.frames) are.routines)
    where
      routine_keeps : (pcs : List ℕ) (go : ℕ → Next) (none : Next) → ((pc : ℕ) → sorts pc ≡ sort.Object ∷ [] → Keeps sorts (Lacks (i.Routine t) s) (go pc)) → Keeps sorts (Lacks (i.Routine t) s) none →
          RoutinesBegin sorts pcs → Keeps sorts (Lacks (i.Routine t) s) (routine_at pcs t go none)
      routine_keeps [] go none h e b = e
      routine_keeps (pc ∷ pcs) go none h e b = if_keeps sorts _ (nat_eq t (length pcs)) (h pc b.0) (routine_keeps pcs go none h e b.1)
  act_keeps i.Back v here s fits lead =
      at_back sorts _ s.stack (took sorts s.stack lead fits.stack) (λ c e. (c, e))
      (λ r pc place below rest e q. goes_there sorts _ e (on_top sorts refl q) fits.frames)
  act_keeps (i.WorkComponent k) v here s fits lead =
      at_object sorts _ s.stack (took sorts s.stack lead.before fits.stack) (λ r st0 p0.
      performing sorts _ (component g k Language r) s.world (looks_ends _) (λ done w.
      fit sorts lead.next (on_top sorts refl (took sorts s.stack lead.before fits.stack)) fits.frames))
  act_keeps i.WalkBegin v here s fits lead =
      at_object sorts _ s.stack (took sorts s.stack lead.before fits.stack) (λ r st0 p0.
      goes_there sorts _ lead.next (on_top sorts refl (took sorts s.stack lead.before fits.stack)) fits.frames)
  act_keeps (i.WalkNext d) v here s fits lead =
      at_elements sorts _ s.stack (took sorts s.stack lead.before fits.stack) (λ ps st p.
      at_object sorts _ st p (λ r st q. element_keeps ps r st q))
    where
      element_keeps : (ps : List Path) (r : Reference) (st : List Cell) → Has sorts lead.rest st → Keeps sorts (Lacks (i.WalkNext d) s) (next_element ps d r s st)
      element_keeps [] r st p = goes_there sorts _ lead.far.0 (on_top sorts refl p) fits.frames
      element_keeps (q ∷ ps) r st p = goes_there sorts _ lead.next (on_top sorts refl (on_top sorts refl (on_top sorts refl p))) fits.frames
  act_keeps (i.SkipUnlessAllocated d) v here s fits lead =
      at_object sorts _ s.stack (took sorts s.stack lead.before fits.stack) (λ r st0 p0.
      if_keeps sorts _ (is_allocated (get s.world.store r.path))
      (goes_there sorts _ lead.next (took sorts s.stack lead.before fits.stack) fits.frames)
      (goes_there sorts _ lead.far.0 (took sorts s.stack lead.before fits.stack) fits.frames))
  act_keeps i.OpenContents v here s fits lead =
      at_object sorts _ s.stack (took sorts s.stack lead.before fits.stack) (λ r st0 p0.
      performing sorts _ (opens r here) s.world (opens_ends r here) (λ done w.
      fit sorts lead.next (on_top sorts refl (took sorts s.stack lead.before fits.stack)) fits.frames))
  act_keeps i.Free v here s fits lead =
      at_object sorts _ s.stack (took sorts s.stack lead.before fits.stack) (λ r st0 p0.
      performing sorts _ (set r Unallocated here) s.world (does_ends _) (λ done w.
      fit sorts lead.next (took sorts s.stack lead.before fits.stack) fits.frames))
  act_keeps i.Clear v here s fits lead =
      at_object sorts _ s.stack (took sorts s.stack lead.before fits.stack) (λ r st0 p0.
      performing sorts _ (clear r here) s.world (does_ends _) (λ done w.
      fit sorts lead.next (took sorts s.stack lead.before fits.stack) fits.frames))
  act_keeps i.Set v here s fits lead =
      at_object sorts _ s.stack (took sorts s.stack lead.before fits.stack) (λ r st0 p0.
      performing sorts _ (set r v here) s.world (does_ends _) (λ done w.
      fit sorts lead.next (took sorts s.stack lead.before fits.stack) fits.frames))
  act_keeps i.Discard v here s fits lead =
      goes_there sorts _ lead.next (took sorts s.stack lead.before fits.stack) fits.frames
  act_keeps i.Dummies v here s fits lead =
      goes_there sorts _ lead.next (on_top sorts refl (took sorts s.stack lead.before fits.stack)) fits.frames
  act_keeps (i.ResultOf x) v here s fits lead =
      performing sorts _ (looks (result_at x s.here.level) >>= λ y. built y here) s.world (bind_ends (looks_ends _) (λ y. built_ends y here)) (λ done w.
      fit sorts lead.next (on_top sorts refl (took sorts s.stack lead.before fits.stack)) fits.frames)
  act_keeps i.Outward v here s fits lead = by_frames s.frames refl
    where
      by_frames : (frames : List Frame) → s.frames ≡ frames → Keeps sorts (Lacks i.Outward s) (outward frames s)
      by_frames [] e = stays_so sorts _ e
      by_frames (f ∷ fs) e = goes_there sorts _ lead.next (on_top sorts refl (took sorts s.stack lead.before fits.stack)) fits.frames
  act_keeps (i.NextArgument n d) v here s fits lead =
      at_objects sorts _ s.stack (took sorts s.stack lead.before fits.stack) (λ rs st p. argument_keeps rs (is_held (passed_at n (passed_in s.frames))) st p)
    where
      argument_keeps : (rs : List Reference) (b : Bool) (st : List Cell) → Has sorts lead.rest st → Keeps sorts (Lacks (i.NextArgument n d) s) (next_argument rs b d s st)
      argument_keeps [] b st p = goes_there sorts _ lead.far.0 (on_top sorts refl p) fits.frames
      argument_keeps (r ∷ rs) b st p = if_keeps sorts _ b (goes_there sorts _ lead.next (on_top sorts refl (on_top sorts refl p)) fits.frames)
          (goes_there sorts _ lead.far.0 (on_top sorts refl p) fits.frames)
  act_keeps i.Return v here s fits lead =
      at_objects sorts _ s.stack (took sorts s.stack lead.before fits.stack) (λ rs st p.
      at_datum sorts _ st p (λ x st q. by_frames s.frames refl x fits.frames))
    where
      by_frames : (frames : List Frame) → s.frames ≡ frames → (x : Value) → FramesFit sorts frames → Keeps sorts (Lacks i.Return s) (returned frames s x)
      by_frames [] is x h = stays_so sorts _ is
      by_frames (f ∷ fs) is x h =
          let caller : Has sorts h.0 f.stack = record { by = h.2 } in
          performing sorts _ (leave f.level) s.world (does_ends _) (λ done w. fit sorts h.1 (on_top sorts refl caller) h.3)
  act_keeps i.Finish v here s fits lead = stays_so sorts _ tt

  does_keeps : (o : Option Line) (s : State) → slice_get code.lines s.pc ≡ o → Fits sorts s → Keeps sorts (LineLacks o s) (does_line limit g code o s)
  does_keeps None s is fits = stays_so sorts (LineLacks None s) tt
  does_keeps (Some l) s is fits = act_keeps l.act l.value (placed l.place s.here) s fits (are.lines s.pc l is)

  step_keeps : (s : State) (n : Next) → Fits sorts s → step limit g code s ≡ n → FitsNext sorts (LineLacks (slice_get code.lines s.pc) s) n
  step_keeps s n fits e =
      let lacks = LineLacks (slice_get code.lines s.pc) s in
      (subst (λ n. Keeps sorts lacks n) e (does_keeps (slice_get code.lines s.pc) s refl fits)).by

pub steps_fit : (limit : ℕ) (g : Setting) (code : Code) (sorts : ℕ → List Sort) → AreSorts sorts code →
    (s t : State) (out : List Event) → Fits sorts s → step limit g code s ≡ Goes out t → Fits sorts t
steps_fit limit g code sorts are s t out fits e = step_keeps limit g code sorts are s (Goes out t) fits e

pub steps_lack : (limit : ℕ) (g : Setting) (code : Code) (sorts : ℕ → List Sort) → AreSorts sorts code →
    (s : State) (out : List Event) → Fits sorts s → step limit g code s ≡ Stays out Stuck → LineLacks (slice_get code.lines s.pc) s
steps_lack limit g code sorts are s out fits e = step_keeps limit g code sorts are s (Stays out Stuck) fits e
