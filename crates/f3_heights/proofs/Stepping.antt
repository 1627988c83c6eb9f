-- Each step keeps to heights.
use Rattle.std.specs.Prelude.{pos, ◌+ℤ◌, slice_index_or}
use Rattle.f3_meaning_whole.specs.Value.{Value, Number, Truth, Composite, Array, Unallocated, Allocated, joined, number_of, truth_of, is_allocated, count, conforms, spans_of}
use Rattle.f3_meaning_whole.specs.Store.{Path, get}
use Rattle.f3_meaning_whole.specs.Reference.{Selected, Language, Reference, spans, is_pinned}
use Rattle.f3_meaning_whole.specs.declared.run_error.RunError.{RunError}
use Rattle.f3_meaning_whole.specs.declared.run_error.RunError.TheVariants.{NotAllocated, ShapesDiffer}
use Rattle.f3_meaning_whole.specs.Ran.{Event, ◌>>=◌, gives, looks, prints_bytes}
use Rattle.f3_meaning_whole.specs.Arithmetic.{apply, change_of, converted}
use Rattle.f3_meaning_whole.specs.Shape.{Whole}
use Rattle.f3_meaning_whole.specs.Act.{Setting, Here, Passed, set, clear, begins, enter, leave, claim, claim_for, named, component, component_of, contents, read, picks_in_each, structure, components_of, given, passed_at}
use Rattle.f3_meaning_whole.specs.Eval.{result, spans_of_component, asked, built, by_reach}
use Rattle.f3_meaning_whole.specs.Exec.{Flow, Onward, Cycled, Left, Returned, unless_zero, print_value, vacant, held_by, status_number, take_over}
use Rattle.f3_code.specs.Exec.{allocate, is_held, result_at}
use Rattle.f3_code.specs.declared.instruction.Instruction.{Instruction}
use Rattle.f3_code.specs.State.{Line, placed, Entry, Code, Cell, Datum, Object, To, Frame, State, Next, Goes}
use Rattle.std.proofs.Common.{◌≡◌, ℕ, zero, suc, ◌+◌, ◌-◌, ◌<◌, true, ℤ, Bool, List, [], ◌∷◌, length, drop, Option, None, Some, refl, sym, subst, arith, slice_get, nat_eq, nat_lt}
use Rattle.f3_code.specs.Machine.{act, does_line, step, begun, selects, opens, checked, tested, no_calls, called_at, returned, outward, passed_in, routine_at, departs, branches, next_turn_at, next_element, next_object, next_argument, skips_failed, argument_of, choice_of, extent_of, selector_of}
use Rattle.f3_places.specs.declared.source.Place.{Place}
use Rattle.f3_heights.specs.Heights.{IsAt}
use Rattle.f3_heights.specs.Needs.{IsKept}
use Rattle.f3_heights.specs.Room.{Stays, Begins, Ends}
use Rattle.f3_heights.proofs.Keeping.{Plan, Above, FramesIn, FitsIn, Rules, Ahead, as_many, above, Keeps, stays_so, took, more, fit, goes_there, performing, if_keeps, if_known, at_datum, at_object, at_bound, at_bounds, at_status, at_elements, at_objects, at_outside, at_going, at_turns, at_level, at_any, at_to, at_many}
use Rattle.f3_program.specs.declared.declarations.Base.TheVariants as base
use Rattle.f3_code.specs.declared.instruction.Instruction.TheVariants as i

-- what stands beneath a routine, where it leads back to the line behind this one
pub record Enters (a : Plan) (pc to : ℕ) : Type 0 where
  pub one : a.height to ≡ 1
  pub under : (need : ℕ) (place : Place) (st : List Cell) (h : ℕ) → a.height (pc + 1) ≡ suc h → Above a need (a.mark (pc + 1)) h st →
      a.under need (a.mark to) (To (pc + 1) place ∷ st)

abbrev pub RoutinesEnter : Plan → ℕ → ℕ → List ℕ → Type 0
RoutinesEnter a pc t [] = Unit {0}
RoutinesEnter a pc t (to ∷ pcs) = (nat_eq t (length pcs) ≡ true → Enters a pc to) × RoutinesEnter a pc t pcs

-- what is said of a code, line by line
pub record Sound (a : Plan) (code : Code) : Type 0 where
  pub rules : Rules a
  pub lines : (pc : ℕ) (l : Line) → slice_get code.lines pc ≡ Some l → IsAt a.height pc l.act
  pub kept : (pc : ℕ) (l : Line) → slice_get code.lines pc ≡ Some l → IsKept a.mark pc l.act
  pub enters : (pc : ℕ) (l : Line) → slice_get code.lines pc ≡ Some l → (t : ℕ) → l.act ≡ i.Routine t → RoutinesEnter a pc t code.routines
  pub procedures : (f : ℕ) (e : Entry) → slice_get code.procedures f ≡ Some e → a.height e.at ≡ 0

module _ (limit : ℕ) (g : Setting) (code : Code) (a : Plan) (sound : Sound a code) (need : ℕ) (needs : List ℕ) where
  act_keeps : (x : Instruction) (v : Value) (here : Here) (s : State) → FitsIn a need needs s → IsAt a.height s.pc x → IsKept a.mark s.pc x →
      ((t : ℕ) → x ≡ i.Routine t → RoutinesEnter a s.pc t code.routines) → Keeps limit a need needs (act limit g code x v here s)
  act_keeps (i.Push c) v here s fits lead kept enters =
      goes_there limit a need needs lead.rest 1 lead.next kept.next (took limit a need needs (a.mark s.pc) lead.rest s.stack 0 lead.before fits.stack) fits.frames
  act_keeps i.Plain v here s fits lead kept enters =
      at_datum limit a need needs (a.mark s.pc) lead.rest s.stack (took limit a need needs (a.mark s.pc) lead.rest s.stack 1 lead.before fits.stack) (λ x st0 p0.
      goes_there limit a need needs lead.rest 1 lead.next kept.next p0 fits.frames)
  act_keeps (i.Unary c t) v here s fits lead kept enters =
      at_datum limit a need needs (a.mark s.pc) lead.rest s.stack (took limit a need needs (a.mark s.pc) lead.rest s.stack 1 lead.before fits.stack) (λ x st0 p0.
      performing limit a need needs (change_of c t x here.place) s.world (λ done w. fit limit a need needs lead.rest 1 lead.next kept.next p0 fits.frames))
  act_keeps (i.Binary c t) v here s fits lead kept enters =
      at_datum limit a need needs (a.mark s.pc) (above 1 lead.rest) s.stack (took limit a need needs (a.mark s.pc) lead.rest s.stack 2 lead.before fits.stack) (λ y st0 p0.
      at_datum limit a need needs (a.mark s.pc) lead.rest st0 p0 (λ x st1 p1. performing limit a need needs (apply c t x y here.place) s.world (λ done w.
      fit limit a need needs lead.rest 1 lead.next kept.next p1 fits.frames)))
  act_keeps (i.Array k) v here s fits lead kept enters =
      at_many limit a need needs (a.mark s.pc) lead.rest argument_of k [] s.stack (took limit a need needs (a.mark s.pc) lead.rest s.stack k lead.before fits.stack) (λ ps st0 p0.
      performing limit a need needs (built (Array (record { lower = pos 1; extent = length (given ps) } ∷ []) (joined (given ps))) here) s.world (λ done w.
      fit limit a need needs lead.rest 1 lead.next kept.next p0 fits.frames))
  act_keeps (i.Structure t k) v here s fits lead kept enters =
      at_many limit a need needs (a.mark s.pc) lead.rest argument_of k [] s.stack (took limit a need needs (a.mark s.pc) lead.rest s.stack k lead.before fits.stack) (λ ps st0 p0.
      performing limit a need needs (structure (components_of (slice_index_or g.shapes t Whole)) 0 ps here >>= λ vs. built (Composite vs) here) s.world (λ done w.
      fit limit a need needs lead.rest 1 lead.next kept.next p0 fits.frames))
  act_keeps (i.Call f n) v here s fits lead kept enters =
      at_many limit a need needs (a.mark s.pc) lead.rest argument_of n [] s.stack (took limit a need needs (a.mark s.pc) lead.rest s.stack n lead.before fits.stack) (λ ps st p.
      if_known limit a need needs (nat_lt (length s.frames) limit)
      (λ few. by_entry (few_callers few) ps st p (slice_get code.procedures f) refl) (stays_so limit a need needs tt))
    where
      few_callers : nat_lt (length s.frames) limit ≡ true → length needs < limit
      few_callers few = fewer (length s.frames) few (as_many a needs s.frames fits.frames)
        where
          fewer : (n : ℕ) → nat_lt n limit ≡ true → length needs ≡ n → length needs < limit
          fewer n few e = grind arith

      by_entry : length needs < limit → (ps : List Passed) (st : List Cell) → Above a need (a.mark s.pc) lead.rest st → (o : Option Entry) → slice_get code.procedures f ≡ o →
          Keeps limit a need needs (called_at o s st here ps)
      by_entry few ps st p None is = goes_there limit a need needs lead.rest 1 lead.next kept.next p fits.frames
      by_entry few ps st p (Some e) is =
          let back : a.height (s.pc + 1) ≡ suc lead.rest = omega (arith, lead.next) in
          let under = subst (λ m. Above a need m lead.rest st) (sym kept.next) p in
          let stack = subst (λ n. Above a (a.mark e.at) (a.mark e.at) n []) (sym (sound.procedures f e is)) (sound.rules.begin (a.mark e.at)) in
          performing limit a need needs (begun ps e.initial here) s.world (λ level w.
          let caller : FramesIn a (need ∷ needs) (record { pc = s.pc + 1; stack = st; here = s.here; caller = here; arguments = ps; level = level } ∷ s.frames) =
          (lead.rest, back, under, fits.frames) in
          record { top = a.mark e.at; others = need ∷ needs; change = Begins few refl refl; fits = record { stack = stack; frames = caller } })
  act_keeps i.Result v here s fits lead kept enters =
      at_datum limit a need needs (a.mark s.pc) lead.rest s.stack (took limit a need needs (a.mark s.pc) lead.rest s.stack 1 lead.before fits.stack) (λ x st0 p0.
      performing limit a need needs (result x here) s.world (λ done w. fit limit a need needs lead.rest 1 lead.next kept.next p0 fits.frames))
  act_keeps i.IsAllocated v here s fits lead kept enters =
      at_object limit a need needs (a.mark s.pc) lead.rest s.stack (took limit a need needs (a.mark s.pc) lead.rest s.stack 1 lead.before fits.stack) (λ r st0 p0.
      performing limit a need needs (looks (λ store. Truth (is_allocated (get store r.path)))) s.world (λ done w.
      fit limit a need needs lead.rest 1 lead.next kept.next p0 fits.frames))
  act_keeps i.BoundsOfValue v here s fits lead kept enters =
      at_datum limit a need needs (a.mark s.pc) lead.rest s.stack (took limit a need needs (a.mark s.pc) lead.rest s.stack 1 lead.before fits.stack) (λ x st0 p0.
      goes_there limit a need needs lead.rest 1 lead.next kept.next p0 fits.frames)
  act_keeps i.BoundsOfVariable v here s fits lead kept enters =
      at_object limit a need needs (a.mark s.pc) lead.rest s.stack (took limit a need needs (a.mark s.pc) lead.rest s.stack 1 lead.before fits.stack) (λ r st0 p0.
      goes_there limit a need needs lead.rest 1 lead.next kept.next p0 fits.frames)
  act_keeps i.Size v here s fits lead kept enters =
      at_bounds limit a need needs (a.mark s.pc) lead.rest s.stack (took limit a need needs (a.mark s.pc) lead.rest s.stack 1 lead.before fits.stack) (λ ss st0 p0.
      performing limit a need needs (converted base.Integer (Number (pos (count ss))) here.place) s.world (λ done w.
      fit limit a need needs lead.rest 1 lead.next kept.next p0 fits.frames))
  act_keeps (i.Bound q) v here s fits lead kept enters =
      at_datum limit a need needs (a.mark s.pc) (above 1 lead.rest) s.stack (took limit a need needs (a.mark s.pc) lead.rest s.stack 2 lead.before fits.stack) (λ x st0 p0.
      at_bounds limit a need needs (a.mark s.pc) lead.rest st0 p0 (λ ss st1 p1. performing limit a need needs (asked q ss (number_of x) here) s.world (λ done w.
      fit limit a need needs lead.rest 1 lead.next kept.next p1 fits.frames)))
  act_keeps i.Load v here s fits lead kept enters =
      at_object limit a need needs (a.mark s.pc) lead.rest s.stack (took limit a need needs (a.mark s.pc) lead.rest s.stack 1 lead.before fits.stack) (λ r st0 p0.
      performing limit a need needs (read r here) s.world (λ done w. fit limit a need needs lead.rest 1 lead.next kept.next p0 fits.frames))
  act_keeps (i.PassValue k) v here s fits lead kept enters =
      at_datum limit a need needs (a.mark s.pc) lead.rest s.stack (took limit a need needs (a.mark s.pc) lead.rest s.stack 1 lead.before fits.stack) (λ x st0 p0.
      performing limit a need needs (claim_for x here) s.world (λ done w. fit limit a need needs lead.rest 1 lead.next kept.next p0 fits.frames))
  act_keeps (i.PassVariable n) v here s fits lead kept enters =
      at_object limit a need needs (a.mark s.pc) lead.rest s.stack (took limit a need needs (a.mark s.pc) lead.rest s.stack 1 lead.before fits.stack) (λ r st0 p0.
      goes_there limit a need needs lead.rest 1 lead.next kept.next p0 fits.frames)
  act_keeps (i.Refer x) v here s fits lead kept enters =
      performing limit a need needs (named g x here) s.world (λ done w.
      fit limit a need needs lead.rest 1 lead.next kept.next (took limit a need needs (a.mark s.pc) lead.rest s.stack 0 lead.before fits.stack) fits.frames)
  act_keeps (i.Component k) v here s fits lead kept enters =
      at_object limit a need needs (a.mark s.pc) lead.rest s.stack (took limit a need needs (a.mark s.pc) lead.rest s.stack 1 lead.before fits.stack) (λ r st0 p0.
      performing limit a need needs (component g k (Selected here.unit) r) s.world (λ done w. fit limit a need needs lead.rest 1 lead.next kept.next p0 fits.frames))
  act_keeps (i.ComponentOf k) v here s fits lead kept enters =
      at_object limit a need needs (a.mark s.pc) lead.rest s.stack (took limit a need needs (a.mark s.pc) lead.rest s.stack 1 lead.before fits.stack) (λ r st0 p0.
      performing limit a need needs (component g k (Selected here.unit) r) s.world (λ done w. fit limit a need needs lead.rest 2 lead.next kept.next p0 fits.frames))
  act_keeps i.Contents v here s fits lead kept enters =
      at_object limit a need needs (a.mark s.pc) lead.rest s.stack (took limit a need needs (a.mark s.pc) lead.rest s.stack 1 lead.before fits.stack) (λ r st0 p0.
      performing limit a need needs (contents r here) s.world (λ done w. fit limit a need needs lead.rest 1 lead.next kept.next p0 fits.frames))
  act_keeps (i.Select is_opened k) v here s fits lead kept enters =
      at_many limit a need needs (a.mark s.pc) (above 1 lead.rest) choice_of k [] s.stack (more limit a need needs (a.mark s.pc) k 1 lead.rest s.stack (took limit a need needs (a.mark s.pc) lead.rest s.stack (k + 1) lead.before fits.stack)) (λ cs st0 p0.
      at_object limit a need needs (a.mark s.pc) lead.rest st0 p0 (λ r st1 p1. performing limit a need needs (selects is_opened cs r here) s.world (λ done w.
      fit limit a need needs lead.rest 1 lead.next kept.next p1 fits.frames)))
  act_keeps (i.SelectOf is_opened n k) v here s fits lead kept enters =
      at_many limit a need needs (a.mark s.pc) (above 2 lead.rest) choice_of k [] s.stack (more limit a need needs (a.mark s.pc) k 2 lead.rest s.stack (took limit a need needs (a.mark s.pc) lead.rest s.stack (k + 2) lead.before fits.stack)) (λ cs st0 p0.
      at_object limit a need needs (a.mark s.pc) (above 1 lead.rest) st0 p0 (λ q st1 p1. at_object limit a need needs (a.mark s.pc) lead.rest st1 p1 (λ r st2 p2.
      performing limit a need needs (by_reach r.reach (selects is_opened cs q here) (picks_in_each (spans_of_component (component_of g.program.types.items r.of n)) q cs here)) s.world
      (λ done w. fit limit a need needs lead.rest 1 lead.next kept.next p2 fits.frames))))
  act_keeps i.Subscript v here s fits lead kept enters =
      at_datum limit a need needs (a.mark s.pc) lead.rest s.stack (took limit a need needs (a.mark s.pc) lead.rest s.stack 1 lead.before fits.stack) (λ x st0 p0.
      goes_there limit a need needs lead.rest 1 lead.next kept.next p0 fits.frames)
  act_keeps i.Limit v here s fits lead kept enters =
      at_datum limit a need needs (a.mark s.pc) lead.rest s.stack (took limit a need needs (a.mark s.pc) lead.rest s.stack 1 lead.before fits.stack) (λ x st0 p0.
      goes_there limit a need needs lead.rest 1 lead.next kept.next p0 fits.frames)
  act_keeps i.NoLimit v here s fits lead kept enters =
      goes_there limit a need needs lead.rest 1 lead.next kept.next (took limit a need needs (a.mark s.pc) lead.rest s.stack 0 lead.before fits.stack) fits.frames
  act_keeps i.Triplet v here s fits lead kept enters =
      at_datum limit a need needs (a.mark s.pc) (above 2 lead.rest) s.stack (took limit a need needs (a.mark s.pc) lead.rest s.stack 3 lead.before fits.stack) (λ z st0 p0.
      at_bound limit a need needs (a.mark s.pc) (above 1 lead.rest) st0 p0 (λ u st1 p1. at_bound limit a need needs (a.mark s.pc) lead.rest st1 p1 (λ l st2 p2.
      goes_there limit a need needs lead.rest 1 lead.next kept.next p2 fits.frames)))
  act_keeps i.TestShape v here s fits lead kept enters =
      at_object limit a need needs (a.mark s.pc) (above 1 lead.rest) s.stack (took limit a need needs (a.mark s.pc) lead.rest s.stack 2 lead.before fits.stack) (λ r st0 p0.
      at_datum limit a need needs (a.mark s.pc) lead.rest st0 p0 (λ x st1 p1. performing limit a need needs (tested (conforms (spans r.reach) x) ShapesDiffer here) s.world
      (λ done w. fit limit a need needs lead.rest 2 lead.next kept.next (took limit a need needs (a.mark s.pc) lead.rest s.stack 2 lead.before fits.stack) fits.frames)))
  act_keeps (i.ByState other unallocated) v here s fits lead kept enters =
      at_object limit a need needs (a.mark s.pc) (above 1 lead.rest) s.stack (took limit a need needs (a.mark s.pc) lead.rest s.stack 2 lead.before fits.stack) (λ r st p.
      at_datum limit a need needs (a.mark s.pc) lead.rest st p (λ x st q. by_old (get s.world.store r.path) x))
    where
      by_old : (old x : Value) → Keeps limit a need needs (branches old x other unallocated s)
      by_old (Allocated old) x = if_keeps limit a need needs (conforms (spans_of old) x)
          (goes_there limit a need needs lead.rest 2 lead.next kept.next (took limit a need needs (a.mark s.pc) lead.rest s.stack 2 lead.before fits.stack) fits.frames)
          (goes_there limit a need needs lead.rest 2 lead.far.0 kept.far.0 (took limit a need needs (a.mark s.pc) lead.rest s.stack 2 lead.before fits.stack) fits.frames)
      by_old old x = goes_there limit a need needs lead.rest 2 lead.far.1.0 kept.far.1.0 (took limit a need needs (a.mark s.pc) lead.rest s.stack 2 lead.before fits.stack) fits.frames
  act_keeps (i.TestRank rank) v here s fits lead kept enters =
      at_object limit a need needs (a.mark s.pc) (above 1 lead.rest) s.stack (took limit a need needs (a.mark s.pc) lead.rest s.stack 2 lead.before fits.stack) (λ r st0 p0.
      at_datum limit a need needs (a.mark s.pc) lead.rest st0 p0 (λ x st1 p1. performing limit a need needs (tested (nat_eq rank (length (spans_of x))) NotAllocated here) s.world
      (λ done w. fit limit a need needs lead.rest 2 lead.next kept.next (took limit a need needs (a.mark s.pc) lead.rest s.stack 2 lead.before fits.stack) fits.frames)))
  act_keeps (i.New rank) v here s fits lead kept enters =
      at_object limit a need needs (a.mark s.pc) (above 1 lead.rest) s.stack (took limit a need needs (a.mark s.pc) lead.rest s.stack 2 lead.before fits.stack) (λ r st0 p0.
      at_datum limit a need needs (a.mark s.pc) lead.rest st0 p0 (λ x st1 p1.
      performing limit a need needs (claim here >>= λ done. set r (Allocated (vacant rank (spans_of x) v)) here) s.world (λ done w.
      fit limit a need needs lead.rest 2 lead.next kept.next (took limit a need needs (a.mark s.pc) lead.rest s.stack 2 lead.before fits.stack) fits.frames)))
  act_keeps (i.Take of) v here s fits lead kept enters =
      at_object limit a need needs (a.mark s.pc) (above 1 lead.rest) s.stack (took limit a need needs (a.mark s.pc) lead.rest s.stack 2 lead.before fits.stack) (λ r st0 p0.
      at_datum limit a need needs (a.mark s.pc) lead.rest st0 p0 (λ x st1 p1.
      performing limit a need needs (converted of x here.place >>= λ x. claim_for x here >>= λ done. set r x here) s.world (λ done w.
      fit limit a need needs lead.rest 0 lead.next kept.next p1 fits.frames)))
  act_keeps (i.Fill of) v here s fits lead kept enters =
      at_object limit a need needs (a.mark s.pc) (above 1 lead.rest) s.stack (took limit a need needs (a.mark s.pc) lead.rest s.stack 2 lead.before fits.stack) (λ r st0 p0.
      at_datum limit a need needs (a.mark s.pc) lead.rest st0 p0 (λ x st1 p1. performing limit a need needs (converted of x here.place >>= λ x. set r x here) s.world (λ done w.
      fit limit a need needs lead.rest 0 lead.next kept.next p1 fits.frames)))
  act_keeps i.Begin v here s fits lead kept enters =
      performing limit a need needs (begins here) s.world (λ done w.
      fit limit a need needs lead.rest 0 lead.next kept.next (took limit a need needs (a.mark s.pc) lead.rest s.stack 0 lead.before fits.stack) fits.frames)
  act_keeps i.Drop v here s fits lead kept enters =
      at_any limit a need needs (a.mark s.pc) lead.rest s.stack (took limit a need needs (a.mark s.pc) lead.rest s.stack 1 lead.before fits.stack) (λ c st0 p0.
      goes_there limit a need needs lead.rest 0 lead.next kept.next p0 fits.frames)
  act_keeps (i.Unwind n) v here s fits lead kept enters =
      goes_there limit a need needs lead.rest 0 lead.next kept.next (dropped n s.stack (took limit a need needs (a.mark s.pc) lead.rest s.stack n lead.before fits.stack)) fits.frames
    where
      dropped : (n : ℕ) (stack : List Cell) → Above a need (a.mark s.pc) (above n lead.rest) stack → Above a need (a.mark s.pc) lead.rest (drop n stack)
      dropped zero stack h = h
      dropped (suc n) [] h = absurd h
      dropped (suc n) (c ∷ stack) h = dropped n stack h
  act_keeps i.Swap v here s fits lead kept enters =
      at_any limit a need needs (a.mark s.pc) (above 1 lead.rest) s.stack (took limit a need needs (a.mark s.pc) lead.rest s.stack 2 lead.before fits.stack) (λ c st0 p0.
      at_any limit a need needs (a.mark s.pc) lead.rest st0 p0 (λ d st1 p1. goes_there limit a need needs lead.rest 2 lead.next kept.next p1 fits.frames))
  act_keeps i.LendBoth v here s fits lead kept enters =
      at_object limit a need needs (a.mark s.pc) (above 1 lead.rest) s.stack (took limit a need needs (a.mark s.pc) lead.rest s.stack 2 lead.before fits.stack) (λ to st0 p0.
      at_object limit a need needs (a.mark s.pc) lead.rest st0 p0 (λ from st1 p1.
      goes_there limit a need needs lead.rest 2 lead.next kept.next (took limit a need needs (a.mark s.pc) lead.rest s.stack 2 lead.before fits.stack) fits.frames))
  act_keeps i.TakeOver v here s fits lead kept enters =
      at_object limit a need needs (a.mark s.pc) (above 1 lead.rest) s.stack (took limit a need needs (a.mark s.pc) lead.rest s.stack 2 lead.before fits.stack) (λ to st0 p0.
      at_object limit a need needs (a.mark s.pc) lead.rest st0 p0 (λ from st1 p1.
      performing limit a need needs (looks (λ store. get store from.path) >>= λ x. take_over g 0 no_calls from to x here) s.world (λ done w.
      fit limit a need needs lead.rest 0 lead.next kept.next p1 fits.frames)))
  act_keeps i.Dimension v here s fits lead kept enters =
      at_datum limit a need needs (a.mark s.pc) (above 1 lead.rest) s.stack (took limit a need needs (a.mark s.pc) lead.rest s.stack 2 lead.before fits.stack) (λ u st0 p0.
      at_datum limit a need needs (a.mark s.pc) lead.rest st0 p0 (λ l st1 p1. goes_there limit a need needs lead.rest 1 lead.next kept.next p1 fits.frames))
  act_keeps (i.Allocate rank k) v here s fits lead kept enters =
      at_many limit a need needs (a.mark s.pc) (above 1 lead.rest) extent_of k [] s.stack (more limit a need needs (a.mark s.pc) k 1 lead.rest s.stack (took limit a need needs (a.mark s.pc) lead.rest s.stack (k + 1) lead.before fits.stack)) (λ ss st0 p0.
      at_object limit a need needs (a.mark s.pc) lead.rest st0 p0 (λ h st1 p1. performing limit a need needs (allocate rank v h ss here) s.world (λ done w.
      fit limit a need needs lead.rest 1 lead.next kept.next p1 fits.frames)))
  act_keeps (i.TestFree d) v here s fits lead kept enters =
      at_object limit a need needs (a.mark s.pc) lead.rest s.stack (took limit a need needs (a.mark s.pc) lead.rest s.stack 1 lead.before fits.stack) (λ h st p.
      if_keeps limit a need needs (is_allocated (get s.world.store h.path))
      (if_keeps limit a need needs (is_pinned h.path here.lent) (goes_there limit a need needs lead.rest 1 lead.far.0 kept.far.0 p fits.frames)
      (goes_there limit a need needs lead.rest 1 lead.next kept.next (took limit a need needs (a.mark s.pc) lead.rest s.stack 1 lead.before fits.stack) fits.frames))
      (goes_there limit a need needs lead.rest 1 lead.far.0 kept.far.0 p fits.frames))
  act_keeps i.NoError v here s fits lead kept enters =
      goes_there limit a need needs lead.rest 1 lead.next kept.next (took limit a need needs (a.mark s.pc) lead.rest s.stack 0 lead.before fits.stack) fits.frames
  act_keeps (i.SkipIfFailed d) v here s fits lead kept enters =
      at_status limit a need needs (a.mark s.pc) lead.rest s.stack (took limit a need needs (a.mark s.pc) lead.rest s.stack 1 lead.before fits.stack) (λ x st p. failed_keeps x st p)
    where
      failed_keeps : (x : Option RunError) (st : List Cell) → Above a need (a.mark s.pc) lead.rest st → Keeps limit a need needs (skips_failed x d s st)
      failed_keeps None st p = goes_there limit a need needs lead.rest 0 lead.next kept.next p fits.frames
      failed_keeps (Some error) st p = goes_there limit a need needs lead.rest 1 lead.far.0 kept.far.0 p fits.frames
  act_keeps i.Check v here s fits lead kept enters =
      at_status limit a need needs (a.mark s.pc) lead.rest s.stack (took limit a need needs (a.mark s.pc) lead.rest s.stack 1 lead.before fits.stack) (λ x st0 p0.
      performing limit a need needs (checked x here) s.world (λ done w. fit limit a need needs lead.rest 0 lead.next kept.next p0 fits.frames))
  act_keeps i.StoreStatus v here s fits lead kept enters =
      at_object limit a need needs (a.mark s.pc) (above 1 lead.rest) s.stack (took limit a need needs (a.mark s.pc) lead.rest s.stack 2 lead.before fits.stack) (λ r st0 p0.
      at_status limit a need needs (a.mark s.pc) lead.rest st0 p0 (λ x st1 p1. performing limit a need needs (set r (Number (pos (status_number x))) here) s.world (λ done w.
      fit limit a need needs lead.rest 0 lead.next kept.next p1 fits.frames)))
  act_keeps i.PrintValue v here s fits lead kept enters =
      at_datum limit a need needs (a.mark s.pc) lead.rest s.stack (took limit a need needs (a.mark s.pc) lead.rest s.stack 1 lead.before fits.stack) (λ x st0 p0.
      performing limit a need needs (print_value x) s.world (λ done w. fit limit a need needs lead.rest 0 lead.next kept.next p0 fits.frames))
  act_keeps (i.PrintByte b) v here s fits lead kept enters =
      performing limit a need needs (prints_bytes (b ∷ [])) s.world (λ done w.
      fit limit a need needs lead.rest 0 lead.next kept.next (took limit a need needs (a.mark s.pc) lead.rest s.stack 0 lead.before fits.stack) fits.frames)
  act_keeps (i.Stop number) v here s fits lead kept enters = stays_so limit a need needs tt
  act_keeps i.SetPlace v here s fits lead kept enters =
      goes_there limit a need needs lead.rest 0 lead.next kept.next (took limit a need needs (a.mark s.pc) lead.rest s.stack 0 lead.before fits.stack) fits.frames
  act_keeps (i.GoOn d) v here s fits lead kept enters =
      goes_there limit a need needs lead.rest 0 lead.far.0 kept.far.0 (took limit a need needs (a.mark s.pc) lead.rest s.stack 0 lead.before fits.stack) fits.frames
  act_keeps (i.GoBack d) v here s fits lead kept enters =
      let there = subst (λ m. Above a need m (a.height s.pc) s.stack) (sym kept) fits.stack in
      stays_so limit a need needs (record {
        top = need;
        others = needs;
        change = Stays refl refl;
        fits = record { stack = subst (λ n. Above a need (a.mark (s.pc - d)) n s.stack) (sym lead) there; frames = fits.frames };
      })
  act_keeps (i.SkipIfFalse d) v here s fits lead kept enters =
      at_datum limit a need needs (a.mark s.pc) lead.rest s.stack (took limit a need needs (a.mark s.pc) lead.rest s.stack 1 lead.before fits.stack) (λ x st0 p0.
      if_keeps limit a need needs (truth_of x) (goes_there limit a need needs lead.rest 0 lead.next kept.next p0 fits.frames)
      (goes_there limit a need needs lead.rest 0 lead.far.0 kept.far.0 p0 fits.frames))
  act_keeps (i.SkipIfTrue d) v here s fits lead kept enters =
      at_datum limit a need needs (a.mark s.pc) lead.rest s.stack (took limit a need needs (a.mark s.pc) lead.rest s.stack 1 lead.before fits.stack) (λ x st0 p0.
      if_keeps limit a need needs (truth_of x) (goes_there limit a need needs lead.rest 0 lead.far.0 kept.far.0 p0 fits.frames)
      (goes_there limit a need needs lead.rest 0 lead.next kept.next p0 fits.frames))
  act_keeps (i.Meets r) v here s fits lead kept enters =
      goes_there limit a need needs lead.rest 1 lead.next kept.next (took limit a need needs (a.mark s.pc) lead.rest s.stack 0 lead.before fits.stack) fits.frames
  act_keeps i.Selecting v here s fits lead kept enters =
      at_datum limit a need needs (a.mark s.pc) lead.rest s.stack (took limit a need needs (a.mark s.pc) lead.rest s.stack 1 lead.before fits.stack) (λ x st0 p0.
      goes_there limit a need needs lead.rest 1 lead.next kept.next p0 fits.frames)
  act_keeps (i.Leave by d) v here s fits lead kept enters =
      at_outside limit a need needs (a.mark s.pc) lead.rest s.stack (took limit a need needs (a.mark s.pc) lead.rest s.stack 1 lead.before fits.stack) (λ outer st0 p0.
      goes_there limit a need needs lead.rest 1 lead.far.0 kept.far.0 p0 fits.frames)
  act_keeps (i.Depart cycle exit) v here s fits lead kept enters =
      at_going limit a need needs (a.mark s.pc) lead.rest s.stack (took limit a need needs (a.mark s.pc) lead.rest s.stack 1 lead.before fits.stack) (λ flow st p. departs_keeps flow st p)
    where
      departs_keeps : (flow : Flow) (st : List Cell) → Above a need (a.mark s.pc) lead.rest st → Keeps limit a need needs (departs flow cycle exit s st)
      departs_keeps Onward st p = goes_there limit a need needs lead.rest 0 lead.far.0 kept.far.0 p fits.frames
      departs_keeps Cycled st p = goes_there limit a need needs lead.rest 0 lead.far.1.0 kept.far.1.0 p fits.frames
      departs_keeps Left st p = goes_there limit a need needs lead.rest 0 lead.far.1.1.0 kept.far.1.1.0 p fits.frames
      departs_keeps (Returned place) st p = goes_there limit a need needs lead.rest 0 lead.next kept.next p fits.frames
  act_keeps i.SelectVariable v here s fits lead kept enters =
      at_object limit a need needs (a.mark s.pc) lead.rest s.stack (took limit a need needs (a.mark s.pc) lead.rest s.stack 1 lead.before fits.stack) (λ r st0 p0.
      goes_there limit a need needs lead.rest 1 lead.next kept.next p0 fits.frames)
  act_keeps (i.SelectValue of) v here s fits lead kept enters =
      at_datum limit a need needs (a.mark s.pc) lead.rest s.stack (took limit a need needs (a.mark s.pc) lead.rest s.stack 1 lead.before fits.stack) (λ x st0 p0.
      performing limit a need needs (claim_for x here) s.world (λ done w. fit limit a need needs lead.rest 1 lead.next kept.next p0 fits.frames))
  act_keeps (i.Associate k) v here s fits lead kept enters =
      at_many limit a need needs (a.mark s.pc) lead.rest selector_of k [] s.stack (took limit a need needs (a.mark s.pc) lead.rest s.stack k lead.before fits.stack) (λ found st0 p0.
      performing limit a need needs (looks (λ store. length store.levels) >>= λ level. enter (held_by found) >>= λ done. gives level) s.world (λ done w.
      fit limit a need needs lead.rest 2 lead.next kept.next p0 fits.frames))
  act_keeps i.Associated v here s fits lead kept enters =
      at_going limit a need needs (a.mark s.pc) (above 1 lead.rest) s.stack (took limit a need needs (a.mark s.pc) lead.rest s.stack 2 lead.before fits.stack) (λ flow st0 p0.
      at_level limit a need needs (a.mark s.pc) lead.rest st0 p0 (λ level rs st1 p1.
      goes_there limit a need needs lead.rest 3 lead.next kept.next (took limit a need needs (a.mark s.pc) lead.rest s.stack 2 lead.before fits.stack) fits.frames))
  act_keeps (i.NextObject d) v here s fits lead kept enters =
      at_objects limit a need needs (a.mark s.pc) lead.rest s.stack (took limit a need needs (a.mark s.pc) lead.rest s.stack 1 lead.before fits.stack) (λ rs st p. object_keeps rs st p)
    where
      object_keeps : (rs : List Reference) (st : List Cell) → Above a need (a.mark s.pc) lead.rest st → Keeps limit a need needs (next_object rs d s st)
      object_keeps [] st p = goes_there limit a need needs lead.rest 1 lead.far.0 kept.far.0 p fits.frames
      object_keeps (r ∷ rs) st p = goes_there limit a need needs lead.rest 2 lead.next kept.next p fits.frames
  act_keeps i.EndAssociate v here s fits lead kept enters =
      at_objects limit a need needs (a.mark s.pc) (above 2 lead.rest) s.stack (took limit a need needs (a.mark s.pc) lead.rest s.stack 3 lead.before fits.stack) (λ rs st0 p0.
      at_going limit a need needs (a.mark s.pc) (above 1 lead.rest) st0 p0 (λ flow st1 p1. at_level limit a need needs (a.mark s.pc) lead.rest st1 p1 (λ level rs st2 p2.
      performing limit a need needs (leave level) s.world (λ done w. fit limit a need needs lead.rest 1 lead.next kept.next p2 fits.frames))))
  act_keeps (i.Convert of) v here s fits lead kept enters =
      at_datum limit a need needs (a.mark s.pc) lead.rest s.stack (took limit a need needs (a.mark s.pc) lead.rest s.stack 1 lead.before fits.stack) (λ x st0 p0.
      performing limit a need needs (converted of x here.place) s.world (λ done w. fit limit a need needs lead.rest 1 lead.next kept.next p0 fits.frames))
  act_keeps i.TestStep v here s fits lead kept enters =
      at_datum limit a need needs (a.mark s.pc) lead.rest s.stack (took limit a need needs (a.mark s.pc) lead.rest s.stack 1 lead.before fits.stack) (λ x st0 p0.
      performing limit a need needs (unless_zero (number_of x) here) s.world (λ done w.
      fit limit a need needs lead.rest 1 lead.next kept.next (took limit a need needs (a.mark s.pc) lead.rest s.stack 1 lead.before fits.stack) fits.frames))
  act_keeps i.CountBegin v here s fits lead kept enters =
      at_object limit a need needs (a.mark s.pc) (above 3 lead.rest) s.stack (took limit a need needs (a.mark s.pc) lead.rest s.stack 4 lead.before fits.stack) (λ r st0 p0.
      at_datum limit a need needs (a.mark s.pc) (above 2 lead.rest) st0 p0 (λ step st1 p1. at_datum limit a need needs (a.mark s.pc) (above 1 lead.rest) st1 p1 (λ last st2 p2.
      at_datum limit a need needs (a.mark s.pc) lead.rest st2 p2 (λ first st3 p3. performing limit a need needs (set r first here) s.world (λ done w.
      fit limit a need needs lead.rest 1 lead.next kept.next p3 fits.frames)))))
  act_keeps (i.CountNext d) v here s fits lead kept enters =
      at_turns limit a need needs (a.mark s.pc) lead.rest s.stack (took limit a need needs (a.mark s.pc) lead.rest s.stack 1 lead.before fits.stack) (λ n by st p. turn_keeps n by st p)
    where
      turn_keeps : (n : ℕ) (by : ℤ) (st : List Cell) → Above a need (a.mark s.pc) lead.rest st → Keeps limit a need needs (next_turn_at n by d s st)
      turn_keeps zero by st p = goes_there limit a need needs lead.rest 1 lead.far.0 kept.far.0 p fits.frames
      turn_keeps (suc n) by st p = goes_there limit a need needs lead.rest 1 lead.next kept.next p fits.frames
  act_keeps (i.CountUp of) v here s fits lead kept enters =
      at_object limit a need needs (a.mark s.pc) (above 1 lead.rest) s.stack (took limit a need needs (a.mark s.pc) lead.rest s.stack 2 lead.before fits.stack) (λ r st0 p0.
      at_turns limit a need needs (a.mark s.pc) lead.rest st0 p0 (λ k step st1 p1.
      performing limit a need needs (looks (λ store. get store r.path) >>= λ old. converted of (Number (number_of old +ℤ step)) here.place >>= λ x. set r x here) s.world
      (λ done w. fit limit a need needs lead.rest 1 lead.next kept.next p0 fits.frames)))
  act_keeps i.Lend v here s fits lead kept enters =
      at_object limit a need needs (a.mark s.pc) lead.rest s.stack (took limit a need needs (a.mark s.pc) lead.rest s.stack 1 lead.before fits.stack) (λ r st0 p0.
      goes_there limit a need needs lead.rest 1 lead.next kept.next (took limit a need needs (a.mark s.pc) lead.rest s.stack 1 lead.before fits.stack) fits.frames)
  act_keeps i.Unlend v here s fits lead kept enters =
      goes_there limit a need needs lead.rest 0 lead.next kept.next (took limit a need needs (a.mark s.pc) lead.rest s.stack 0 lead.before fits.stack) fits.frames
  act_keeps (i.SkipUnlessRank rank d) v here s fits lead kept enters =
      at_object limit a need needs (a.mark s.pc) lead.rest s.stack (took limit a need needs (a.mark s.pc) lead.rest s.stack 1 lead.before fits.stack) (λ r st0 p0.
      if_keeps limit a need needs (nat_eq rank (length (spans r.reach)))
      (goes_there limit a need needs lead.rest 1 lead.next kept.next (took limit a need needs (a.mark s.pc) lead.rest s.stack 1 lead.before fits.stack) fits.frames)
      (goes_there limit a need needs lead.rest 1 lead.far.0 kept.far.0 (took limit a need needs (a.mark s.pc) lead.rest s.stack 1 lead.before fits.stack) fits.frames))
  act_keeps i.PassObject v here s fits lead kept enters =
      at_object limit a need needs (a.mark s.pc) lead.rest s.stack (took limit a need needs (a.mark s.pc) lead.rest s.stack 1 lead.before fits.stack) (λ r st0 p0.
      goes_there limit a need needs lead.rest 2 lead.next kept.next (took limit a need needs (a.mark s.pc) lead.rest s.stack 1 lead.before fits.stack) fits.frames)
  act_keeps (i.Routine t) v here s fits lead kept enters =
      at_object limit a need needs (a.mark s.pc) lead.rest s.stack (took limit a need needs (a.mark s.pc) lead.rest s.stack 1 lead.before fits.stack) (λ r st p. routine_keeps code.routines
      (λ pc. Goes [] (record { pc = pc; stack = Object r ∷ To (s.pc + 1) s.here.place ∷ st; here = here; frames = s.frames; world = s.world }))
      (Goes [] (record { pc = s.pc + 1; stack = s.stack; here = s.here; frames = s.frames; world = s.world }))
      (λ pc e.
      let back : a.height (s.pc + 1) ≡ suc lead.rest = omega (arith, lead.next) in
      let under = e.under need s.here.place st lead.rest back (subst (λ m. Above a need m lead.rest st) (sym kept.next) p) in
      goes_there limit a need needs 0 1 (let e : a.height pc ≡ 1 + 0 = omega (arith, e.one) in e) refl under fits.frames)
      (goes_there limit a need needs lead.rest 1 lead.next kept.next (took limit a need needs (a.mark s.pc) lead.rest s.stack 1 lead.before fits.stack) fits.frames)
      (enters t refl))
    where
      routine_keeps : (pcs : List ℕ) (go : ℕ → Next) (none : Next) → ((pc : ℕ) → Enters a s.pc pc → Keeps limit a need needs (go pc)) → Keeps limit a need needs none →
          RoutinesEnter a s.pc t pcs → Keeps limit a need needs (routine_at pcs t go none)
      routine_keeps [] go none h e b = e
      routine_keeps (pc ∷ pcs) go none h e b = if_known limit a need needs (nat_eq t (length pcs)) (λ is. h pc (b.0 is)) (routine_keeps pcs go none h e b.1)
  act_keeps i.Back v here s fits lead kept enters =
      at_object limit a need needs (a.mark s.pc) 0 s.stack (took limit a need needs (a.mark s.pc) 0 s.stack 1 (let e : a.height s.pc ≡ 1 + 0 = omega (arith, lead) in e) fits.stack) (λ r st p.
      at_to limit a need needs (a.mark s.pc) st sound.rules p (λ pc place below h e q.
      let e' : a.height pc ≡ 1 + h = omega (arith, e) in goes_there limit a need needs h 1 e' refl q fits.frames))
  act_keeps (i.WorkComponent k) v here s fits lead kept enters =
      at_object limit a need needs (a.mark s.pc) lead.rest s.stack (took limit a need needs (a.mark s.pc) lead.rest s.stack 1 lead.before fits.stack) (λ r st0 p0.
      performing limit a need needs (component g k Language r) s.world (λ done w.
      fit limit a need needs lead.rest 2 lead.next kept.next (took limit a need needs (a.mark s.pc) lead.rest s.stack 1 lead.before fits.stack) fits.frames))
  act_keeps i.WalkBegin v here s fits lead kept enters =
      at_object limit a need needs (a.mark s.pc) lead.rest s.stack (took limit a need needs (a.mark s.pc) lead.rest s.stack 1 lead.before fits.stack) (λ r st0 p0.
      goes_there limit a need needs lead.rest 2 lead.next kept.next (took limit a need needs (a.mark s.pc) lead.rest s.stack 1 lead.before fits.stack) fits.frames)
  act_keeps (i.WalkNext d) v here s fits lead kept enters =
      at_elements limit a need needs (a.mark s.pc) (above 1 lead.rest) s.stack (took limit a need needs (a.mark s.pc) lead.rest s.stack 2 lead.before fits.stack) (λ ps st p.
      at_object limit a need needs (a.mark s.pc) lead.rest st p (λ r st q. element_keeps ps r st q))
    where
      element_keeps : (ps : List Path) (r : Reference) (st : List Cell) → Above a need (a.mark s.pc) lead.rest st → Keeps limit a need needs (next_element ps d r s st)
      element_keeps [] r st p = goes_there limit a need needs lead.rest 1 lead.far.0 kept.far.0 p fits.frames
      element_keeps (q ∷ ps) r st p = goes_there limit a need needs lead.rest 3 lead.next kept.next p fits.frames
  act_keeps (i.SkipUnlessAllocated d) v here s fits lead kept enters =
      at_object limit a need needs (a.mark s.pc) lead.rest s.stack (took limit a need needs (a.mark s.pc) lead.rest s.stack 1 lead.before fits.stack) (λ r st0 p0.
      if_keeps limit a need needs (is_allocated (get s.world.store r.path))
      (goes_there limit a need needs lead.rest 1 lead.next kept.next (took limit a need needs (a.mark s.pc) lead.rest s.stack 1 lead.before fits.stack) fits.frames)
      (goes_there limit a need needs lead.rest 1 lead.far.0 kept.far.0 (took limit a need needs (a.mark s.pc) lead.rest s.stack 1 lead.before fits.stack) fits.frames))
  act_keeps i.OpenContents v here s fits lead kept enters =
      at_object limit a need needs (a.mark s.pc) lead.rest s.stack (took limit a need needs (a.mark s.pc) lead.rest s.stack 1 lead.before fits.stack) (λ r st0 p0.
      performing limit a need needs (opens r here) s.world (λ done w.
      fit limit a need needs lead.rest 2 lead.next kept.next (took limit a need needs (a.mark s.pc) lead.rest s.stack 1 lead.before fits.stack) fits.frames))
  act_keeps i.Free v here s fits lead kept enters =
      at_object limit a need needs (a.mark s.pc) lead.rest s.stack (took limit a need needs (a.mark s.pc) lead.rest s.stack 1 lead.before fits.stack) (λ r st0 p0.
      performing limit a need needs (set r Unallocated here) s.world (λ done w.
      fit limit a need needs lead.rest 1 lead.next kept.next (took limit a need needs (a.mark s.pc) lead.rest s.stack 1 lead.before fits.stack) fits.frames))
  act_keeps i.Clear v here s fits lead kept enters =
      at_object limit a need needs (a.mark s.pc) lead.rest s.stack (took limit a need needs (a.mark s.pc) lead.rest s.stack 1 lead.before fits.stack) (λ r st0 p0.
      performing limit a need needs (clear r here) s.world (λ done w.
      fit limit a need needs lead.rest 1 lead.next kept.next (took limit a need needs (a.mark s.pc) lead.rest s.stack 1 lead.before fits.stack) fits.frames))
  act_keeps i.Set v here s fits lead kept enters =
      at_object limit a need needs (a.mark s.pc) lead.rest s.stack (took limit a need needs (a.mark s.pc) lead.rest s.stack 1 lead.before fits.stack) (λ r st0 p0.
      performing limit a need needs (set r v here) s.world (λ done w.
      fit limit a need needs lead.rest 1 lead.next kept.next (took limit a need needs (a.mark s.pc) lead.rest s.stack 1 lead.before fits.stack) fits.frames))
  act_keeps i.Discard v here s fits lead kept enters =
      goes_there limit a need needs lead.rest 0 lead.next kept.next (took limit a need needs (a.mark s.pc) lead.rest s.stack 0 lead.before fits.stack) fits.frames
  act_keeps i.Dummies v here s fits lead kept enters =
      goes_there limit a need needs lead.rest 1 lead.next kept.next (took limit a need needs (a.mark s.pc) lead.rest s.stack 0 lead.before fits.stack) fits.frames
  act_keeps (i.ResultOf x) v here s fits lead kept enters =
      performing limit a need needs (looks (result_at x s.here.level) >>= λ y. built y here) s.world (λ done w.
      fit limit a need needs lead.rest 1 lead.next kept.next (took limit a need needs (a.mark s.pc) lead.rest s.stack 0 lead.before fits.stack) fits.frames)
  act_keeps i.Outward v here s fits lead kept enters = by_frames s.frames
    where
      by_frames : (frames : List Frame) → Keeps limit a need needs (outward frames s)
      by_frames [] = stays_so limit a need needs tt
      by_frames (f ∷ fs) = goes_there limit a need needs lead.rest 1 lead.next kept.next (took limit a need needs (a.mark s.pc) lead.rest s.stack 0 lead.before fits.stack) fits.frames
  act_keeps (i.NextArgument n d) v here s fits lead kept enters =
      at_objects limit a need needs (a.mark s.pc) lead.rest s.stack (took limit a need needs (a.mark s.pc) lead.rest s.stack 1 lead.before fits.stack) (λ rs st p. argument_keeps rs (is_held (passed_at n (passed_in s.frames))) st p)
    where
      argument_keeps : (rs : List Reference) (b : Bool) (st : List Cell) → Above a need (a.mark s.pc) lead.rest st → Keeps limit a need needs (next_argument rs b d s st)
      argument_keeps [] b st p = goes_there limit a need needs lead.rest 1 lead.far.0 kept.far.0 p fits.frames
      argument_keeps (r ∷ rs) b st p = if_keeps limit a need needs b (goes_there limit a need needs lead.rest 2 lead.next kept.next p fits.frames)
          (goes_there limit a need needs lead.rest 1 lead.far.0 kept.far.0 p fits.frames)
  act_keeps i.Return v here s fits lead kept enters =
      at_objects limit a need needs (a.mark s.pc) (above 1 lead.rest) s.stack (took limit a need needs (a.mark s.pc) lead.rest s.stack 2 lead.before fits.stack) (λ rs st p.
      at_datum limit a need needs (a.mark s.pc) lead.rest st p (λ x st q. by_frames needs s.frames x fits.frames))
    where
      by_frames : (others : List ℕ) (frames : List Frame) (x : Value) → FramesIn a others frames → Keeps limit a need others (returned frames s x)
      by_frames others [] x h = stays_so limit a need others tt
      by_frames [] (f ∷ fs) x h = absurd h
      by_frames (top ∷ others) (f ∷ fs) x h =
          let there = subst (λ n. Above a top (a.mark f.pc) n (Datum x ∷ f.stack)) (sym h.1) h.2 in
          performing limit a need (top ∷ others) (leave f.level) s.world
          (λ done w. record { top = top; others = others; change = Ends refl; fits = record { stack = there; frames = h.3 } })
  act_keeps i.Finish v here s fits lead kept enters = stays_so limit a need needs tt

  does_keeps : (o : Option Line) (s : State) → slice_get code.lines s.pc ≡ o → FitsIn a need needs s → Keeps limit a need needs (does_line limit g code o s)
  does_keeps None s is fits = stays_so limit a need needs tt
  does_keeps (Some l) s is fits = act_keeps l.act l.value (placed l.place s.here) s fits (sound.lines s.pc l is) (sound.kept s.pc l is) (sound.enters s.pc l is)

  pub step_keeps : (s t : State) (out : List Event) → FitsIn a need needs s → step limit g code s ≡ Goes out t → Ahead limit a need needs t
  step_keeps s t out fits e = by_next (does_keeps (slice_get code.lines s.pc) s refl fits) e
    where
      by_next : {n : Next} → Keeps limit a need needs n → n ≡ Goes out t → Ahead limit a need needs t
      by_next h e = (subst (λ n. Keeps limit a need needs n) e h).by
