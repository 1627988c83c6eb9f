-- What each instruction leaves around all constructs of the main program.
use Rattle.std.proofs.Common.{◌≡◌, ℕ, zero, suc, ◌+◌, ℤ, pos, Bool, true, false, List, [], ◌∷◌, length, drop, Option, Some, None, refl, sym, ap, subst, if◌then◌else◌}
use Rattle.std.specs.Prelude.{◌+ℤ◌, nat_eq, nat_lt, slice_get, slice_index_or}
use Rattle.f3_places.specs.declared.source.Place.{Place}
use Rattle.f3_program.specs.declared.declarations.Base.TheVariants as base
use Rattle.f3_meaning_whole.specs.Value.{Span, Value, Number, Truth, Composite, Array, Unallocated, Allocated, count, joined, number_of, truth_of, is_allocated, conforms, spans_of}
use Rattle.f3_meaning_whole.specs.Store.{Path, Store, get}
use Rattle.f3_meaning_whole.specs.Reference.{Selected, Language, Reference, spans, is_pinned}
use Rattle.f3_meaning_whole.specs.declared.run_error.RunError.{RunError}
use Rattle.f3_meaning_whole.specs.declared.run_error.RunError.TheVariants.{NotAllocated, ShapesDiffer}
use Rattle.f3_meaning_whole.specs.Ran.{Event, World, End, Gives, Fails, Stops, Beyond, Ran, ◌>>=◌, gives, looks, prints_bytes}
use Rattle.f3_meaning_whole.specs.Arithmetic.{apply, change_of, converted}
use Rattle.f3_meaning_whole.specs.Shape.{Whole}
use Rattle.f3_meaning_whole.specs.Act.{Setting, Here, Passed, begins, claim, claim_for, clear, component, component_of, components_of, contents, enter, given, leave, named, passed_at, picks_in_each, read, set, structure, Chosen}
use Rattle.f3_meaning_whole.specs.Eval.{asked, built, by_reach, result, spans_of_component}
use Rattle.f3_meaning_whole.specs.Exec.{Flow, Onward, Cycled, Left, Returned, held_by, print_value, status_number, take_over, unless_zero, vacant, Association}
use Rattle.f3_code.specs.Exec.{allocate, is_held, result_at}
use Rattle.f3_code.specs.declared.instruction.Instruction.{Instruction}
use Rattle.f3_code.specs.declared.instruction.Instruction.TheVariants as i
use Rattle.f3_code.specs.declared.instruction.Way.{Way}
use Rattle.f3_code.specs.State as state
use Rattle.f3_code.specs.State.{Line, placed, Entry, Code, Cell, Datum, Object, Argument, Choice, Bound, Bounds, Extent, Status, Turns, Elements, Objects, To, Selector, Level, Outside, Going, Frame, State, Next, Goes}
use Rattle.f3_code.specs.Machine.{act, ends_so, performs, on_datum, on_object, on_bound, on_bounds, on_status, on_turns, on_elements, on_objects, on_to, on_level, on_outside, on_going, on_any, on_some, on_many, begun, called_at, checked, no_calls, opens, returned, outward, passed_in, routine_at, selects, tested, departs, branches, next_turn_at, next_element, next_object, next_argument, skips_failed, argument_of, choice_of, extent_of, selector_of}
use Rattle.f3_resting_laws.specs.Rests.{Rests, is_lending, main_outermost, outermost}

-- ---- around all constructs

abbrev pub Free : Here → Type 0
Free h = (h.lent ≡ []) × (h.selected ≡ Unallocated)

-- no construct is open among so many on top
abbrev pub NoneOpen : ℕ → List Cell → Type 0
NoneOpen zero st = Unit {0}
NoneOpen (suc n) [] = Unit {0}
NoneOpen (suc n) (Outside outer ∷ st) = ⊥
NoneOpen (suc n) (c ∷ st) = NoneOpen n st

-- what goes by itself, and what changes places
abbrev pub IsSmooth : Instruction → List Cell → Type 0
IsSmooth i.Drop st = NoneOpen 1 st
IsSmooth i.Swap st = NoneOpen 2 st
IsSmooth (i.Unwind n) st = NoneOpen n st
IsSmooth x st = Unit {0}

-- where nothing is lent, and no value selected, so it is with other cells
abbrev Same : State → List Cell → Type 0
Same s st = Free (outermost s.here s.stack) → Free (outermost s.here st)

-- somewhere else
free_else : (h k : Here) (st : List Cell) → (Free h → Free k) → Free (outermost h st) → Free (outermost k st)
free_else h k [] f = f
free_else h k (Outside outer ∷ st) f = λ p. p
free_else h k (c ∷ st) f = free_else h k st f

in_main : (h k : Here) (st st' : List Cell) (fs : List Frame) → (Free (outermost h st) → Free (outermost k st')) → Free (main_outermost h st fs) → Free (main_outermost k st' fs)
in_main h k st st' [] f = f
in_main h k st st' (g ∷ fs) f = λ p. p

abbrev Rest : State → Type 0
Rest t = Free (main_outermost t.here t.stack t.frames)

-- it rests behind the line if it did before
record KeepsTo (s t : State) : Type 0 where
  by : Rest s → Rest t

abbrev KeepsAt : State → Next → Type 0
KeepsAt s (Goes out t) = KeepsTo s t
KeepsAt s (state.Stays out halt) = Unit {0}

record Keeps (s : State) (n : Next) : Type 0 where
  by : KeepsAt s n

module _ {s : State} where
  stays : {n : Next} → KeepsAt s n → Keeps s n
  stays h = record { by = h }

  quiet : {pc : ℕ} {stack : List Cell} {here : Here} {w : World} → (Free (outermost s.here s.stack) → Free (outermost here stack)) →
      KeepsTo s (record { pc = pc; stack = stack; here = here; frames = s.frames; world = w })
  quiet {stack = stack} {here = here} h = record { by = in_main s.here here s.stack stack s.frames h }

  on : {out : List Event} {pc : ℕ} {stack : List Cell} → Same s stack → Keeps s (Goes out (record { pc = pc; stack = stack; here = s.here; frames = s.frames; world = s.world }))
  on h = record { by = quiet h }

  on_in : {out : List Event} {pc : ℕ} {stack : List Cell} {here : Here} → (Free (outermost s.here s.stack) → Free (outermost here stack)) →
      Keeps s (Goes out (record { pc = pc; stack = stack; here = here; frames = s.frames; world = s.world }))
  on_in h = record { by = quiet h }

  runs : {A : Type 0} (r : Ran A) {f : A → World → State} → ((y : A) (u : World) → KeepsTo s (f y u)) → Keeps s (performs r s.world f)
  runs {A = A} r {f = f} h = record { by = by_end (r.from s.world).out (r.from s.world).end }
    where
      by_end : (out : List Event) (end : End A) → KeepsAt s (ends_so out end f)
      by_end out (Gives y u) = h y u
      by_end out (Fails error place) = tt
      by_end out (Stops code) = tt
      by_end out Beyond = tt

  there : {pc : ℕ} {stack : List Cell} {u : World} → Same s stack → KeepsTo s (record { pc = pc; stack = stack; here = s.here; frames = s.frames; world = u })
  there h = quiet h

  if_keeps : (b : Bool) {m n : Next} → Keeps s m → Keeps s n → Keeps s (if b then m else n)
  if_keeps true h k = h
  if_keeps false h k = k

  -- ---- what stands on top

  at_datum : {f : Value → List Cell → Next} (stack : List Cell) → Same s stack → ((v : Value) (st : List Cell) → Same s st → Keeps s (f v st)) → Keeps s (on_datum stack f)
  at_datum (Datum v ∷ stack) e h = h v stack e
  at_datum stack e h = record { by = tt }

  at_object : {f : Reference → List Cell → Next} (stack : List Cell) → Same s stack → ((r : Reference) (st : List Cell) → Same s st → Keeps s (f r st)) → Keeps s (on_object stack f)
  at_object (Object r ∷ stack) e h = h r stack e
  at_object stack e h = record { by = tt }

  at_bound : {f : Option ℤ → List Cell → Next} (stack : List Cell) → Same s stack → ((z : Option ℤ) (st : List Cell) → Same s st → Keeps s (f z st)) → Keeps s (on_bound stack f)
  at_bound (Bound z ∷ stack) e h = h z stack e
  at_bound stack e h = record { by = tt }

  at_bounds : {f : List Span → List Cell → Next} (stack : List Cell) → Same s stack → ((ss : List Span) (st : List Cell) → Same s st → Keeps s (f ss st)) → Keeps s (on_bounds stack f)
  at_bounds (Bounds ss ∷ stack) e h = h ss stack e
  at_bounds stack e h = record { by = tt }

  at_status : {f : Option RunError → List Cell → Next} (stack : List Cell) → Same s stack → ((y : Option RunError) (st : List Cell) → Same s st → Keeps s (f y st)) → Keeps s (on_status stack f)
  at_status (Status y ∷ stack) e h = h y stack e
  at_status stack e h = record { by = tt }

  at_turns : {f : ℕ → ℤ → List Cell → Next} (stack : List Cell) → Same s stack → ((k : ℕ) (z : ℤ) (st : List Cell) → Same s st → Keeps s (f k z st)) → Keeps s (on_turns stack f)
  at_turns (Turns k z ∷ stack) e h = h k z stack e
  at_turns stack e h = record { by = tt }

  at_elements : {f : List Path → List Cell → Next} (stack : List Cell) → Same s stack → ((ps : List Path) (st : List Cell) → Same s st → Keeps s (f ps st)) → Keeps s (on_elements stack f)
  at_elements (Elements ps ∷ stack) e h = h ps stack e
  at_elements stack e h = record { by = tt }

  at_objects : {f : List Reference → List Cell → Next} (stack : List Cell) → Same s stack → ((rs : List Reference) (st : List Cell) → Same s st → Keeps s (f rs st)) → Keeps s (on_objects stack f)
  at_objects (Objects rs ∷ stack) e h = h rs stack e
  at_objects stack e h = record { by = tt }

  at_to : {f : ℕ → Place → List Cell → Next} (stack : List Cell) → Same s stack → ((pc : ℕ) (place : Place) (st : List Cell) → Same s st → Keeps s (f pc place st)) → Keeps s (on_to stack f)
  at_to (To pc place ∷ stack) e h = h pc place stack e
  at_to stack e h = record { by = tt }

  at_outside : {f : Here → List Cell → Next} (stack : List Cell) → Same s stack → ((outer : Here) (st : List Cell) → (Free (outermost s.here s.stack) → Free (outermost outer st)) → Keeps s (f outer st)) → Keeps s (on_outside stack f)
  at_outside (Outside outer ∷ stack) e h = h outer stack e
  at_outside stack e h = record { by = tt }

  at_going : {f : Flow → List Cell → Next} (stack : List Cell) → Same s stack → ((flow : Flow) (st : List Cell) → Same s st → Keeps s (f flow st)) → Keeps s (on_going stack f)
  at_going (Going flow ∷ stack) e h = h flow stack e
  at_going stack e h = record { by = tt }

  at_level : {f : ℕ → List Reference → List Cell → Next} (stack : List Cell) → Same s stack →
      ((level : ℕ) (rs : List Reference) (st : List Cell) → Same s st → Keeps s (f level rs st)) → Keeps s (on_level stack f)
  at_level (Level level rs ∷ stack) e h = h level rs stack e
  at_level stack e h = record { by = tt }

  at_some : {X : Type 0} {f : X → Next} (o : Option X) → ((y : X) → o ≡ Some y → Keeps s (f y)) → Keeps s (on_some o f)
  at_some None h = record { by = tt }
  at_some (Some y) h = h y refl

  at_many : {X : Type 0} {f : List X → List Cell → Next} (of : Cell → Option X) → ((c : Cell) (y : X) (st : List Cell) (h : Here) → of c ≡ Some y → Free (outermost h (c ∷ st)) → Free (outermost h st)) →
      (k : ℕ) (ys : List X) (stack : List Cell) → Same s stack → ((ys : List X) (st : List Cell) → Same s st → Keeps s (f ys st)) → Keeps s (on_many of k ys stack f)
  at_many of plain zero ys stack e h = h ys stack e
  at_many of plain (suc k) ys [] e h = record { by = tt }
  at_many of plain (suc k) ys (c ∷ stack) e h = at_some (of c) (λ y is. at_many of plain k (y ∷ ys) stack (λ p. plain c y stack s.here is (e p)) h)

plain_argument : (c : Cell) (y : Passed) (st : List Cell) (h : Here) → argument_of c ≡ Some y → Free (outermost h (c ∷ st)) → Free (outermost h st)
plain_argument (Outside outer) y st h e = cc
plain_argument c y st h e = λ p. p

plain_choice : (c : Cell) (y : Chosen) (st : List Cell) (h : Here) → choice_of c ≡ Some y → Free (outermost h (c ∷ st)) → Free (outermost h st)
plain_choice (Outside outer) y st h e = cc
plain_choice c y st h e = λ p. p

plain_extent : (c : Cell) (y : Span) (st : List Cell) (h : Here) → extent_of c ≡ Some y → Free (outermost h (c ∷ st)) → Free (outermost h st)
plain_extent (Outside outer) y st h e = cc
plain_extent c y st h e = λ p. p

plain_selector : (c : Cell) (y : Association) (st : List Cell) (h : Here) → selector_of c ≡ Some y → Free (outermost h (c ∷ st)) → Free (outermost h st)
plain_selector (Outside outer) y st h e = cc
plain_selector c y st h e = λ p. p

-- cells that go by themselves
smooth : (n : ℕ) (st : List Cell) (h : Here) → NoneOpen n st → Free (outermost h st) → Free (outermost h (drop n st))
smooth zero st h e = λ p. p
smooth (suc n) [] h e = λ p. p
smooth (suc n) (Outside outer ∷ st) h e = absurd e
smooth (suc n) (c ∷ st) h e = smooth n st h e

swapped : (c d : Cell) (st : List Cell) (h : Here) → NoneOpen 2 (c ∷ d ∷ st) → Free (outermost h (c ∷ d ∷ st)) → Free (outermost h (d ∷ c ∷ st))
swapped c d st h e p = added d (c ∷ st) h (second c d st e) (added c st h (one c (d ∷ st) e) (smooth 2 (c ∷ d ∷ st) h e p))
  where
    one : (c : Cell) (st : List Cell) → NoneOpen 2 (c ∷ st) → NoneOpen 1 (c ∷ [])
    one (Outside outer) st e = e
    one c st e = tt

    second : (c d : Cell) (st : List Cell) → NoneOpen 2 (c ∷ d ∷ st) → NoneOpen 1 (d ∷ [])
    second (Outside outer) d st e = absurd e
    second c (Outside outer) st e = e
    second c d st e = tt

    added : (c : Cell) (st : List Cell) (h : Here) → NoneOpen 1 (c ∷ []) → Free (outermost h st) → Free (outermost h (c ∷ st))
    added (Outside outer) st h e = absurd e
    added c st h e = λ p. p

module _ (limit : ℕ) (g : Setting) (code : Code) (v : Value) (o : Option Place) (s : State) where
  abbrev here : Here
  here = placed o s.here

  abbrev store : Store
  store = s.world.store

  abbrev Do : Instruction → Type 0
  Do x = Keeps s (act limit g code x v here s)

  call_keeps : (f k : ℕ) → Do (i.Call f k)
  call_keeps f k = at_many argument_of plain_argument k [] s.stack (λ p. p) (λ ps st e.
      if_keeps (nat_lt (length s.frames) limit) (by_entry ps st e (slice_get code.procedures f)) (stays tt))
    where
      by_entry : (ps : List Passed) (st : List Cell) → Same s st → (y : Option Entry) → Keeps s (called_at y s st here ps)
      by_entry ps st e None = on e
      by_entry ps st e (Some y) = runs (begun ps y.initial here) (λ level u. record { by = in_main s.here s.here s.stack st s.frames e })

  associate_keeps : (k : ℕ) → Do (i.Associate k)
  associate_keeps k = at_many selector_of plain_selector k [] s.stack (λ p. p) (λ found st e.
      runs (looks (λ store. length store.levels) >>= λ level. enter (held_by found) >>= λ done. gives level) (λ level u. quiet e))

  end_keeps : Do i.EndAssociate
  end_keeps = at_objects s.stack (λ p. p) (λ rs st e. at_going st e (λ flow st' e'. at_level st' e' (λ level rs' st'' e''.
      runs (leave level) (λ done u. there e''))))

  return_keeps : Do i.Return
  return_keeps = at_objects s.stack (λ p. p) (λ rs st e. at_datum st e (λ y st' e'. by_frames s.frames refl y))
    where
      by_frames : (fs : List Frame) → s.frames ≡ fs → (y : Value) → Keeps s (returned fs s y)
      by_frames [] is y = stays tt
      by_frames (f ∷ fs) is y = runs (leave f.level) (λ done u. record {
        by = λ p. in_main f.here f.here f.stack (Datum y ∷ f.stack) fs (λ k. k)
            (subst (λ gs. Free (main_outermost s.here s.stack gs)) is p);
      })

  outward_keeps : Do i.Outward
  outward_keeps = by_frames s.frames refl
    where
      by_frames : (fs : List Frame) → s.frames ≡ fs → Keeps s (outward fs s)
      by_frames [] is = stays tt
      by_frames (f ∷ fs) is = stays (record {
        by = λ p. subst (λ gs. Free (main_outermost f.caller (Objects s.here.names ∷ s.stack) gs)) (sym is)
            (subst (λ gs. Free (main_outermost s.here s.stack gs)) is p);
      })

  leave_keeps : (by : Way) (d : ℕ) → Do (i.Leave by d)
  leave_keeps by d = at_outside s.stack (λ p. p) (λ outer st e. stays (quiet e))

  drop_keeps : NoneOpen 1 s.stack → Do i.Drop
  drop_keeps sm = by_stack s.stack refl
    where
      by_stack : (stack : List Cell) → stack ≡ s.stack → Keeps s (on_any stack (λ c st. Goes [] (record { pc = s.pc + 1; stack = st; here = s.here; frames = s.frames; world = s.world })))
      by_stack [] is = stays tt
      by_stack (c ∷ st) is = stays (quiet (λ p. smooth 1 (c ∷ st) s.here (subst (NoneOpen 1) (sym is) sm) (subst (λ l. Free (outermost s.here l)) (sym is) p)))

  swap_keeps : NoneOpen 2 s.stack → Do i.Swap
  swap_keeps sm = by_stack s.stack refl
    where
      by_stack : (stack : List Cell) → stack ≡ s.stack → Keeps s (on_any stack (λ c st. on_any st (λ d st.
          Goes [] (record { pc = s.pc + 1; stack = d ∷ c ∷ st; here = s.here; frames = s.frames; world = s.world }))))
      by_stack [] is = stays tt
      by_stack (c ∷ []) is = stays tt
      by_stack (c ∷ d ∷ st) is = stays (quiet (λ p. swapped c d st s.here (subst (NoneOpen 2) (sym is) sm) (subst (λ l. Free (outermost s.here l)) (sym is) p)))

  state_keeps : (other unallocated : ℕ) → Do (i.ByState other unallocated)
  state_keeps other unallocated = at_object s.stack (λ p. p) (λ r st e. at_datum st e (λ y st' e'. by_value (get store r.path) y))
    where
      by_value : (old y : Value) → Keeps s (branches old y other unallocated s)
      by_value (Allocated old) y = if_keeps (conforms (spans_of old) y) (on (λ p. p)) (on (λ p. p))
      by_value (Number z) y = on (λ p. p)
      by_value (Truth b) y = on (λ p. p)
      by_value (Composite vs) y = on (λ p. p)
      by_value (Array ss vs) y = on (λ p. p)
      by_value Unallocated y = on (λ p. p)

  failed_keeps : (d : ℕ) → Do (i.SkipIfFailed d)
  failed_keeps d = at_status s.stack (λ p. p) (λ y st e. by_status y st e)
    where
      by_status : (y : Option RunError) (st : List Cell) → Same s st → Keeps s (skips_failed y d s st)
      by_status None st e = on e
      by_status (Some error) st e = on e

  depart_keeps : (cycle exit : ℕ) → Do (i.Depart cycle exit)
  depart_keeps cycle exit = at_going s.stack (λ p. p) (λ flow st e. by_flow flow st e)
    where
      by_flow : (flow : Flow) (st : List Cell) → Same s st → Keeps s (departs flow cycle exit s st)
      by_flow Onward st e = on e
      by_flow Cycled st e = on e
      by_flow Left st e = on e
      by_flow (Returned place) st e = on_in (λ p. free_else s.here _ st (λ f. f) (e p))

  next_object_keeps : (d : ℕ) → Do (i.NextObject d)
  next_object_keeps d = at_objects s.stack (λ p. p) (λ rs st e. by_objects rs st e)
    where
      by_objects : (rs : List Reference) (st : List Cell) → Same s st → Keeps s (next_object rs d s st)
      by_objects [] st e = on e
      by_objects (r ∷ rs) st e = on e

  next_argument_keeps : (k d : ℕ) → Do (i.NextArgument k d)
  next_argument_keeps k d = at_objects s.stack (λ p. p) (λ rs st e. by_objects rs (is_held (passed_at k (passed_in s.frames))) st e)
    where
      by_objects : (rs : List Reference) (b : Bool) (st : List Cell) → Same s st → Keeps s (next_argument rs b d s st)
      by_objects [] b st e = on e
      by_objects (r ∷ rs) b st e = if_keeps b (on e) (on e)

  count_next_keeps : (d : ℕ) → Do (i.CountNext d)
  count_next_keeps d = at_turns s.stack (λ p. p) (λ k z st e. by_turns k z st e)
    where
      by_turns : (k : ℕ) (z : ℤ) (st : List Cell) → Same s st → Keeps s (next_turn_at k z d s st)
      by_turns zero z st e = on e
      by_turns (suc k) z st e = on e

  walk_next_keeps : (d : ℕ) → Do (i.WalkNext d)
  walk_next_keeps d = at_elements s.stack (λ p. p) (λ ps st e. at_object st e (λ r st' e'. by_elements ps r st' e'))
    where
      by_elements : (ps : List Path) (r : Reference) (st : List Cell) → Same s st → Keeps s (next_element ps d r s st)
      by_elements [] r st e = on e
      by_elements (p ∷ ps) r st e = on e

  routine_keeps : (t : ℕ) → Do (i.Routine t)
  routine_keeps t = at_object s.stack (λ p. p) (λ r st e. by_routines code.routines r st e)
    where
      by_routines : (pcs : List ℕ) (r : Reference) (st : List Cell) → Same s st →
          Keeps s (routine_at pcs t (λ pc. Goes [] (record { pc = pc; stack = Object r ∷ To (s.pc + 1) s.here.place ∷ st; here = here; frames = s.frames; world = s.world }))
          (Goes [] (record { pc = s.pc + 1; stack = s.stack; here = s.here; frames = s.frames; world = s.world })))
      by_routines [] r st e = on (λ p. p)
      by_routines (pc ∷ pcs) r st e = if_keeps (nat_eq t (length pcs)) (on_in (λ p. free_else s.here here st (λ f. f) (e p))) (by_routines pcs r st e)

  act_keeps : (x : Instruction) → IsSmooth x s.stack → is_lending x ≡ false → Do x
  act_keeps (i.Push c) sm calm = on (λ p. p)
  act_keeps i.Plain sm calm = at_datum s.stack (λ p. p) (λ y st e. on e)
  act_keeps (i.Unary c t) sm calm = at_datum s.stack (λ p. p) (λ y st e. runs (change_of c t y here.place) (λ z u. there e))
  act_keeps (i.Binary c t) sm calm = at_datum s.stack (λ p. p) (λ y st e. at_datum st e (λ z st' e'. runs (apply c t z y here.place) (λ z u. there e')))
  act_keeps (i.Array k) sm calm = at_many argument_of plain_argument k [] s.stack (λ p. p) (λ ps st e. runs (built (Array (record { lower = pos 1; extent = length (given ps) } ∷ []) (joined (given ps))) here) (λ z u. there e))
  act_keeps (i.Structure t k) sm calm = at_many argument_of plain_argument k [] s.stack (λ p. p) (λ ps st e.
      runs (structure (components_of (slice_index_or g.shapes t Whole)) 0 ps here >>= λ vs. built (Composite vs) here) (λ z u. there e))
  act_keeps (i.Call f k) sm calm = call_keeps f k
  act_keeps i.Result sm calm = at_datum s.stack (λ p. p) (λ y st e.
      runs (result y here) (λ z u. there e))
  act_keeps i.IsAllocated sm calm = at_object s.stack (λ p. p) (λ r st e. runs (looks (λ store. Truth (is_allocated (get store r.path)))) (λ z u. there e))
  act_keeps i.BoundsOfValue sm calm = at_datum s.stack (λ p. p) (λ y st e. on e)
  act_keeps i.BoundsOfVariable sm calm = at_object s.stack (λ p. p) (λ r st e. on e)
  act_keeps i.Size sm calm = at_bounds s.stack (λ p. p) (λ ss st e. runs (converted base.Integer (Number (pos (count ss))) here.place) (λ z u. there e))
  act_keeps (i.Bound q) sm calm = at_datum s.stack (λ p. p) (λ y st e. at_bounds st e (λ ss st' e'. runs (asked q ss (number_of y) here) (λ z u. there e')))
  act_keeps i.Load sm calm = at_object s.stack (λ p. p) (λ r st e. runs (read r here) (λ z u. there e))
  act_keeps (i.PassValue k) sm calm = at_datum s.stack (λ p. p) (λ y st e. runs (claim_for y here) (λ z u. there e))
  act_keeps (i.PassVariable k) sm calm = at_object s.stack (λ p. p) (λ r st e. on e)
  act_keeps (i.Refer y) sm calm = runs (named g y here) (λ z u. there (λ p. p))
  act_keeps (i.Component k) sm calm = at_object s.stack (λ p. p) (λ r st e. runs (component g k (Selected here.unit) r) (λ z u. there e))
  act_keeps (i.ComponentOf k) sm calm = at_object s.stack (λ p. p) (λ r st e. runs (component g k (Selected here.unit) r) (λ z u. there e))
  act_keeps i.Contents sm calm = at_object s.stack (λ p. p) (λ r st e. runs (contents r here) (λ z u. there e))
  act_keeps (i.Select is_opened k) sm calm = at_many choice_of plain_choice k [] s.stack (λ p. p) (λ cs st e. at_object st e (λ r st' e'.
      runs (selects is_opened cs r here) (λ z u. there e')))
  act_keeps (i.SelectOf is_opened m k) sm calm = at_many choice_of plain_choice k [] s.stack (λ p. p) (λ cs st e. at_object st e (λ q st' e'. at_object st' e' (λ r st'' e''.
      runs (by_reach r.reach (selects is_opened cs q here) (picks_in_each (spans_of_component (component_of g.program.types.items r.of m)) q cs here)) (λ z u. there e''))))
  act_keeps i.Subscript sm calm = at_datum s.stack (λ p. p) (λ y st e. on e)
  act_keeps i.Limit sm calm = at_datum s.stack (λ p. p) (λ y st e. on e)
  act_keeps i.NoLimit sm calm = on (λ p. p)
  act_keeps i.Triplet sm calm = at_datum s.stack (λ p. p) (λ y st e. at_bound st e (λ z st' e'. at_bound st' e' (λ z' st'' e''. on e'')))
  act_keeps i.TestShape sm calm = at_object s.stack (λ p. p) (λ r st e. at_datum st e (λ y st' e'. runs (tested (conforms (spans r.reach) y) ShapesDiffer here) (λ z u. there (λ p. p))))
  act_keeps (i.ByState other unallocated) sm calm = state_keeps other unallocated
  act_keeps (i.TestRank rank) sm calm = at_object s.stack (λ p. p) (λ r st e. at_datum st e (λ y st' e'. runs (tested (nat_eq rank (length (spans_of y))) NotAllocated here) (λ z u. there (λ p. p))))
  act_keeps (i.New rank) sm calm = at_object s.stack (λ p. p) (λ r st e. at_datum st e (λ y st' e'.
      runs (claim here >>= λ done. set r (Allocated (vacant rank (spans_of y) v)) here) (λ z u. there (λ p. p))))
  act_keeps (i.Take of) sm calm = at_object s.stack (λ p. p) (λ r st e. at_datum st e (λ y st' e'.
      runs (converted of y here.place >>= λ x. claim_for x here >>= λ done. set r x here) (λ z u. there e')))
  act_keeps (i.Fill of) sm calm = at_object s.stack (λ p. p) (λ r st e. at_datum st e (λ y st' e'.
      runs (converted of y here.place >>= λ x. set r x here) (λ z u. there e')))
  act_keeps i.Begin sm calm = runs (begins here) (λ z u. there (λ p. p))
  act_keeps i.Drop sm calm = drop_keeps sm
  act_keeps (i.Unwind k) sm calm = stays (quiet (smooth k s.stack s.here sm))
  act_keeps i.Swap sm calm = swap_keeps sm
  act_keeps i.LendBoth sm calm = cc
  act_keeps i.TakeOver sm calm = at_object s.stack (λ p. p) (λ r st e. at_object st e (λ q st' e'.
      runs (looks (λ store. get store q.path) >>= λ x. take_over g 0 no_calls q r x here) (λ z u. quiet (λ p. free_else s.here _ st' (λ f. (ap (drop 2) f.0, f.1)) (e' p)))))
  act_keeps i.Dimension sm calm = at_datum s.stack (λ p. p) (λ y st e. at_datum st e (λ z st' e'. on e'))
  act_keeps (i.Allocate rank k) sm calm = at_many extent_of plain_extent k [] s.stack (λ p. p) (λ ss st e. at_object st e (λ r st' e'.
      runs (allocate rank v r ss here) (λ z u. there e')))
  act_keeps (i.TestFree d) sm calm = at_object s.stack (λ p. p) (λ r st e. if_keeps (is_allocated (get store r.path)) (if_keeps (is_pinned r.path here.lent) (on e) (on (λ p. p))) (on e))
  act_keeps i.NoError sm calm = on (λ p. p)
  act_keeps (i.SkipIfFailed d) sm calm = failed_keeps d
  act_keeps i.Check sm calm = at_status s.stack (λ p. p) (λ y st e. runs (checked y here) (λ z u. there e))
  act_keeps i.StoreStatus sm calm = at_object s.stack (λ p. p) (λ r st e. at_status st e (λ y st' e'. runs (set r (Number (pos (status_number y))) here) (λ z u. there e')))
  act_keeps i.PrintValue sm calm = at_datum s.stack (λ p. p) (λ y st e. runs (print_value y) (λ z u. there e))
  act_keeps (i.PrintByte b) sm calm = runs (prints_bytes (b ∷ [])) (λ z u. there (λ p. p))
  act_keeps (i.Stop number) sm calm = stays tt
  act_keeps i.SetPlace sm calm = on_in (free_else s.here here s.stack (λ f. f))
  act_keeps (i.GoOn d) sm calm = on (λ p. p)
  act_keeps (i.GoBack d) sm calm = on (λ p. p)
  act_keeps (i.SkipIfFalse d) sm calm = at_datum s.stack (λ p. p) (λ y st e. if_keeps (truth_of y) (on e) (on e))
  act_keeps (i.SkipIfTrue d) sm calm = at_datum s.stack (λ p. p) (λ y st e. if_keeps (truth_of y) (on e) (on e))
  act_keeps (i.Meets r) sm calm = on (λ p. p)
  act_keeps i.Selecting sm calm = at_datum s.stack (λ p. p) (λ y st e. on_in e)
  act_keeps (i.Leave by d) sm calm = leave_keeps by d
  act_keeps (i.Depart cycle exit) sm calm = depart_keeps cycle exit
  act_keeps i.SelectVariable sm calm = at_object s.stack (λ p. p) (λ r st e. on e)
  act_keeps (i.SelectValue of) sm calm = at_datum s.stack (λ p. p) (λ y st e. runs (claim_for y here) (λ z u. there e))
  act_keeps (i.Associate k) sm calm = associate_keeps k
  act_keeps i.Associated sm calm = at_going s.stack (λ p. p) (λ flow st e. at_level st e (λ level rs st' e'. on (λ p. p)))
  act_keeps (i.NextObject d) sm calm = next_object_keeps d
  act_keeps i.EndAssociate sm calm = end_keeps
  act_keeps (i.Convert of) sm calm = at_datum s.stack (λ p. p) (λ y st e. runs (converted of y here.place) (λ z u. there e))
  act_keeps i.TestStep sm calm = at_datum s.stack (λ p. p) (λ y st e. runs (unless_zero (number_of y) here) (λ z u. there (λ p. p)))
  act_keeps i.CountBegin sm calm = at_object s.stack (λ p. p) (λ r st e. at_datum st e (λ by st1 e1. at_datum st1 e1 (λ last st2 e2. at_datum st2 e2 (λ start st3 e3.
      runs (set r start here) (λ z u. there e3)))))
  act_keeps (i.CountNext d) sm calm = count_next_keeps d
  act_keeps (i.CountUp of) sm calm = at_object s.stack (λ p. p) (λ r st e. at_turns st e (λ k by st' e'.
      runs (looks (λ store. get store r.path) >>= λ old. converted of (Number (number_of old +ℤ by)) here.place >>= λ x. set r x here) (λ z u. there e)))
  act_keeps i.Lend sm calm = cc
  act_keeps i.Unlend sm calm = on_in (free_else s.here _ s.stack (λ f. (ap (drop 1) f.0, f.1)))
  act_keeps (i.SkipUnlessRank rank d) sm calm = at_object s.stack (λ p. p) (λ r st e. if_keeps (nat_eq rank (length (spans r.reach))) (on (λ p. p)) (on (λ p. p)))
  act_keeps i.PassObject sm calm = at_object s.stack (λ p. p) (λ r st e. on (λ p. p))
  act_keeps (i.Routine t) sm calm = routine_keeps t
  act_keeps i.Back sm calm = at_object s.stack (λ p. p) (λ r st e. at_to st e (λ pc place st' e'. on_in (λ p. free_else s.here _ st' (λ f. f) (e' p))))
  act_keeps (i.WorkComponent k) sm calm = at_object s.stack (λ p. p) (λ r st e. runs (component g k Language r) (λ z u. there (λ p. p)))
  act_keeps i.WalkBegin sm calm = at_object s.stack (λ p. p) (λ r st e. on (λ p. p))
  act_keeps (i.WalkNext d) sm calm = walk_next_keeps d
  act_keeps (i.SkipUnlessAllocated d) sm calm = at_object s.stack (λ p. p) (λ r st e. if_keeps (is_allocated (get store r.path)) (on (λ p. p)) (on (λ p. p)))
  act_keeps i.OpenContents sm calm = at_object s.stack (λ p. p) (λ r st e. runs (opens r here) (λ z u. there (λ p. p)))
  act_keeps i.Free sm calm = at_object s.stack (λ p. p) (λ r st e. runs (set r Unallocated here) (λ z u. there (λ p. p)))
  act_keeps i.Clear sm calm = at_object s.stack (λ p. p) (λ r st e. runs (clear r here) (λ z u. there (λ p. p)))
  act_keeps i.Set sm calm = at_object s.stack (λ p. p) (λ r st e. runs (set r v here) (λ z u. there (λ p. p)))
  act_keeps i.Discard sm calm = on (λ p. p)
  act_keeps i.Dummies sm calm = on (λ p. p)
  act_keeps (i.ResultOf y) sm calm = runs (looks (result_at y s.here.level) >>= λ x. built x here) (λ z u. there (λ p. p))
  act_keeps i.Outward sm calm = outward_keeps
  act_keeps (i.NextArgument k d) sm calm = next_argument_keeps k d
  act_keeps i.Return sm calm = return_keeps
  act_keeps i.Finish sm calm = stays tt

-- what a line does
pub line_keeps : (limit : ℕ) (g : Setting) (code : Code) (l : Line) (s t : State) (out : List Event) → IsSmooth l.act s.stack → is_lending l.act ≡ false
    → act limit g code l.act l.value (placed l.place s.here) s ≡ Goes out t → Rests s → Rests t
line_keeps limit g code l s t out sm calm e r =
    let p = (subst (KeepsAt s) e (act_keeps limit g code l.value l.place s l.act sm calm).by).by (r.lent, r.selected) in record { lent = p.0; selected = p.1 }
