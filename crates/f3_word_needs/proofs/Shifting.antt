-- How each instruction changes callers, names and levels.
use Rattle.std.proofs.Common.{◌≡◌, ℕ, zero, suc, ◌+◌, ◌≤◌, ℤ, pos, Bool, true, false, List, [], ◌∷◌, length, take, drop, Option, Some, None, refl, sym, ap, ◌∙◌, subst, arith, if◌then◌else◌}
use Rattle.std.specs.Prelude.{nat_eq, nat_lt, slice_get, slice_index_or}
use Rattle.f3_places.specs.declared.source.Place.{Place}
use Rattle.f3_program.specs.declared.declarations.Base.TheVariants as base
use Rattle.f3_meaning_whole.specs.Value.{Span, Value, Number, Truth, Composite, Array, Unallocated, Allocated, joined, number_of, truth_of, is_allocated, conforms, spans_of}
use Rattle.f3_meaning_whole.specs.Store.{Store, Path, get}
use Rattle.f3_meaning_whole.specs.Reference.{Selected, Language, Reference, spans, is_pinned}
use Rattle.f3_meaning_whole.specs.declared.run_error.RunError.{RunError}
use Rattle.f3_meaning_whole.specs.declared.run_error.RunError.TheVariants.{NotAllocated, ShapesDiffer}
use Rattle.f3_meaning_whole.specs.Ran.{Event, World, End, Gives, Fails, Stops, Beyond, Ran, ◌>>=◌, gives, looks}
use Rattle.f3_meaning_whole.specs.Arithmetic.{apply, change_of}
use Rattle.f3_meaning_whole.specs.Shape.{Whole}
use Rattle.f3_meaning_whole.specs.Act.{Setting, Here, Passed, enter, leave, components_of, given, passed_at, structure, Chosen}
use Rattle.f3_meaning_whole.specs.Eval.{result, built}
use Rattle.f3_meaning_whole.specs.Exec.{Flow, Onward, Cycled, Left, Returned, vacant, held, held_by, status_number, Association}
use Rattle.f3_code.specs.Exec.{is_held, result_at}
use Rattle.f3_code.specs.declared.instruction.Instruction.{Instruction}
use Rattle.f3_code.specs.declared.instruction.Instruction.TheVariants as i
use Rattle.f3_code.specs.declared.instruction.Way.{Way}
use Rattle.f3_code.specs.State as state
use Rattle.f3_code.specs.State.{Line, placed, Entry, Code, Cell, Datum, Object, Argument, Choice, Bound, Bounds, Extent, Status, Turns, Elements, Objects, To, Selector, Level, Outside, Going, Frame, State, Next, Goes}
use Rattle.f3_code.specs.Machine.{act, ends_so, performs, on_datum, on_object, on_bound, on_bounds, on_status, on_turns, on_elements, on_objects, on_to, on_level, on_outside, on_going, on_any, on_some, on_many, begun, called_at, returned, outward, passed_in, routine_at, departs, branches, next_turn_at, next_element, next_object, next_argument, skips_failed, argument_of, choice_of, extent_of, selector_of}
use Rattle.f3_cell_kinds.proofs.Calm.{looks_calm}
use Rattle.f3_store_kinds.proofs.After.{IsAfter, After, gives_after, bind_after, calm_then}
use Rattle.f3_store_kinds.proofs.Still.{Still, looks_still, then_still, claim_still, converted_still, apply_still, change_still, claim_for_still, built_still, read_still, result_still, asked_still, structure_still, unless_still, checked_still, tested_still, begins_still, prints_still, print_still}
use Rattle.f3_word_needs.specs.Counts.{associated, all_levels}
use Rattle.f3_word_needs.proofs.Sized.{many, Sized, still_sized, set_sized, clear_sized, enter_sized, leave_after, named_still, component_still, contents_still, opens_still, picks_in_each_still, selects_still, by_reach_still, allocate_sized, take_over_sized}

-- what goes by itself, and what changes places, is no level of an ASSOCIATE
abbrev pub IsSmooth : Instruction → List Cell → Type 0
IsSmooth i.Drop st = associated (take 1 st) ≡ []
IsSmooth i.Swap st = associated (take 2 st) ≡ []
IsSmooth (i.Unwind n) st = associated (take n st) ≡ []
IsSmooth x st = Unit {0}

module _ (code : Code) (x : Instruction) (s : State) where
  -- in the same activation, which may name as much
  pub record Quiet (t : State) : Type 0 where
    pub frames : t.frames ≡ s.frames
    pub names : t.here.names ≡ s.here.names
    pub levels : IsSmooth x s.stack → associated t.stack ≡ associated s.stack
    pub count : all_levels t ≡ all_levels s

  -- in the same activation, out of a construct
  pub record Leaves (t : State) : Type 0 where
    pub by : Way
    pub over : ℕ
    pub act : x ≡ i.Leave by over
    pub pc : t.pc ≡ s.pc + 1 + over
    pub frames : t.frames ≡ s.frames
    pub levels : associated t.stack ≡ associated s.stack
    pub count : all_levels t ≡ all_levels s

  -- where the caller stands
  pub record Looks (t : State) : Type 0 where
    pub caller : Frame
    pub others : List Frame
    pub callers : s.frames ≡ caller ∷ others
    pub frames : t.frames ≡ s.frames
    pub names : t.here.names ≡ caller.caller.names
    pub levels : associated t.stack ≡ associated s.stack
    pub count : all_levels t ≡ all_levels s

  -- an ASSOCIATE begins
  pub record Opens (t : State) : Type 0 where
    pub selectors : ℕ
    pub act : x ≡ i.Associate selectors
    pub pc : t.pc ≡ s.pc + 1
    pub frames : t.frames ≡ s.frames
    pub levels : associated t.stack ≡ all_levels s ∷ associated s.stack
    pub count : all_levels t ≡ all_levels s + 1

  -- an ASSOCIATE ends
  pub record Closes (t : State) : Type 0 where
    pub level : ℕ
    pub frames : t.frames ≡ s.frames
    pub names : t.here.names ≡ s.here.names
    pub levels : associated s.stack ≡ level ∷ associated t.stack
    pub count : all_levels t ≤ level

  -- a procedure begins
  pub record Calls (t : State) : Type 0 where
    pub number : ℕ
    pub entry : Entry
    pub is : slice_get code.procedures number ≡ Some entry
    pub pc : t.pc ≡ entry.at
    pub caller : Frame
    pub frames : t.frames ≡ caller ∷ s.frames
    pub here : caller.here.names ≡ s.here.names
    pub names : caller.caller.names ≡ s.here.names
    pub beneath : associated caller.stack ≡ associated s.stack
    pub level : caller.level ≡ all_levels s
    pub levels : associated t.stack ≡ []
    pub count : all_levels t ≡ all_levels s + 2

  -- a procedure ends
  pub record Returns (t : State) : Type 0 where
    pub caller : Frame
    pub callers : s.frames ≡ caller ∷ t.frames
    pub names : t.here.names ≡ caller.here.names
    pub levels : associated t.stack ≡ associated caller.stack
    pub count : all_levels t ≤ caller.level

  pub data Shift (t : State) : Type 0 where
    Stays : Quiet t → Shift t
    Leaving : Leaves t → Shift t
    Looking : Looks t → Shift t
    Opening : Opens t → Shift t
    Closing : Closes t → Shift t
    Calling : Calls t → Shift t
    Returning : Returns t → Shift t

  abbrev pub ShiftsNext : Next → Type 0
  ShiftsNext (Goes out t) = Shift t
  ShiftsNext (state.Stays out halt) = Unit {0}

  pub record Shifts (n : Next) : Type 0 where
    pub by : ShiftsNext n

-- so many levels of ASSOCIATEs as before
abbrev Same : State → List Cell → Type 0
Same s st = associated st ≡ associated s.stack

module _ {code : Code} {x : Instruction} {s : State} where
  stays : {n : Next} → ShiftsNext code x s n → Shifts code x s n
  stays h = record { by = h }

  quiet : {pc : ℕ} {stack : List Cell} {here : Here} {w : World} → here.names ≡ s.here.names → many w.store ≡ many s.world.store → (IsSmooth x s.stack → Same s stack) →
      Shift code x s (record { pc = pc; stack = stack; here = here; frames = s.frames; world = w })
  quiet e n h = Stays (record { frames = refl; names = e; levels = h; count = n })

  -- on, with the same store
  on : {out : List Event} {pc : ℕ} {stack : List Cell} → Same s stack → Shifts code x s (Goes out (record { pc = pc; stack = stack; here = s.here; frames = s.frames; world = s.world }))
  on h = record { by = quiet refl refl (λ q. h) }

  on_in : {out : List Event} {pc : ℕ} {stack : List Cell} {here : Here} → here.names ≡ s.here.names → Same s stack →
      Shifts code x s (Goes out (record { pc = pc; stack = stack; here = here; frames = s.frames; world = s.world }))
  on_in e h = record { by = quiet e refl (λ q. h) }

  performing : {A : Type 0} (P : A → Store → Type 0) (r : Ran A) {f : A → World → State} → After P s.world.store r → ((y : A) (u : World) → P y u.store → Shift code x s (f y u)) →
      Shifts code x s (performs r s.world f)
  performing {A = A} P r {f = f} a h = record { by = by_end (r.from s.world).out (r.from s.world).end (a.by s.world refl) }
    where
      by_end : (out : List Event) (end : End A) → IsAfter P end → ShiftsNext code x s (ends_so out end f)
      by_end out (Gives y u) k = h y u k
      by_end out (Fails error place) k = tt
      by_end out (Stops code) k = tt
      by_end out Beyond k = tt

  -- on, with as many levels
  sized : {A : Type 0} (r : Ran A) {f : A → World → State} → Sized (many s.world.store) s.world.store r → ((y : A) (u : World) → many u.store ≡ many s.world.store → Shift code x s (f y u)) →
      Shifts code x s (performs r s.world f)
  sized r a h = performing (λ y st. many st ≡ many s.world.store) r a h

  still : {A : Type 0} (r : Ran A) {f : A → World → State} → Still s.world.store r → ((y : A) (u : World) → many u.store ≡ many s.world.store → Shift code x s (f y u)) → Shifts code x s (performs r s.world f)
  still r a h = sized r (still_sized a) h

  there : {pc : ℕ} {stack : List Cell} {u : World} → many u.store ≡ many s.world.store → Same s stack →
      Shift code x s (record { pc = pc; stack = stack; here = s.here; frames = s.frames; world = u })
  there n h = quiet refl n (λ q. h)

  if_shifts : (b : Bool) {m n : Next} → Shifts code x s m → Shifts code x s n → Shifts code x s (if b then m else n)
  if_shifts true h k = h
  if_shifts false h k = k

  -- ---- what stands on top

  at_datum : {f : Value → List Cell → Next} (stack : List Cell) → Same s stack → ((v : Value) (st : List Cell) → Same s st → Shifts code x s (f v st)) → Shifts code x s (on_datum stack f)
  at_datum (Datum v ∷ stack) e h = h v stack e
  at_datum stack e h = record { by = tt }

  at_object : {f : Reference → List Cell → Next} (stack : List Cell) → Same s stack → ((r : Reference) (st : List Cell) → Same s st → Shifts code x s (f r st)) → Shifts code x s (on_object stack f)
  at_object (Object r ∷ stack) e h = h r stack e
  at_object stack e h = record { by = tt }

  at_bound : {f : Option ℤ → List Cell → Next} (stack : List Cell) → Same s stack → ((z : Option ℤ) (st : List Cell) → Same s st → Shifts code x s (f z st)) → Shifts code x s (on_bound stack f)
  at_bound (Bound z ∷ stack) e h = h z stack e
  at_bound stack e h = record { by = tt }

  at_bounds : {f : List Span → List Cell → Next} (stack : List Cell) → Same s stack → ((ss : List Span) (st : List Cell) → Same s st → Shifts code x s (f ss st)) → Shifts code x s (on_bounds stack f)
  at_bounds (Bounds ss ∷ stack) e h = h ss stack e
  at_bounds stack e h = record { by = tt }

  at_status : {f : Option RunError → List Cell → Next} (stack : List Cell) → Same s stack → ((y : Option RunError) (st : List Cell) → Same s st → Shifts code x s (f y st)) → Shifts code x s (on_status stack f)
  at_status (Status y ∷ stack) e h = h y stack e
  at_status stack e h = record { by = tt }

  at_turns : {f : ℕ → ℤ → List Cell → Next} (stack : List Cell) → Same s stack → ((k : ℕ) (z : ℤ) (st : List Cell) → Same s st → Shifts code x s (f k z st)) → Shifts code x s (on_turns stack f)
  at_turns (Turns k z ∷ stack) e h = h k z stack e
  at_turns stack e h = record { by = tt }

  at_elements : {f : List Path → List Cell → Next} (stack : List Cell) → Same s stack → ((ps : List Path) (st : List Cell) → Same s st → Shifts code x s (f ps st)) → Shifts code x s (on_elements stack f)
  at_elements (Elements ps ∷ stack) e h = h ps stack e
  at_elements stack e h = record { by = tt }

  at_objects : {f : List Reference → List Cell → Next} (stack : List Cell) → Same s stack → ((rs : List Reference) (st : List Cell) → Same s st → Shifts code x s (f rs st)) → Shifts code x s (on_objects stack f)
  at_objects (Objects rs ∷ stack) e h = h rs stack e
  at_objects stack e h = record { by = tt }

  at_to : {f : ℕ → Place → List Cell → Next} (stack : List Cell) → Same s stack → ((pc : ℕ) (place : Place) (st : List Cell) → Same s st → Shifts code x s (f pc place st)) → Shifts code x s (on_to stack f)
  at_to (To pc place ∷ stack) e h = h pc place stack e
  at_to stack e h = record { by = tt }

  at_outside : {f : Here → List Cell → Next} (stack : List Cell) → Same s stack → ((here : Here) (st : List Cell) → Same s st → Shifts code x s (f here st)) → Shifts code x s (on_outside stack f)
  at_outside (Outside here ∷ stack) e h = h here stack e
  at_outside stack e h = record { by = tt }

  at_going : {f : Flow → List Cell → Next} (stack : List Cell) → Same s stack → ((flow : Flow) (st : List Cell) → Same s st → Shifts code x s (f flow st)) → Shifts code x s (on_going stack f)
  at_going (Going flow ∷ stack) e h = h flow stack e
  at_going stack e h = record { by = tt }

  at_level : {f : ℕ → List Reference → List Cell → Next} (stack : List Cell) → Same s stack →
      ((level : ℕ) (rs : List Reference) (st : List Cell) → associated s.stack ≡ level ∷ associated st → Shifts code x s (f level rs st)) → Shifts code x s (on_level stack f)
  at_level (Level level rs ∷ stack) e h = h level rs stack (sym e)
  at_level stack e h = record { by = tt }

  at_some : {X : Type 0} {f : X → Next} (o : Option X) → ((y : X) → o ≡ Some y → Shifts code x s (f y)) → Shifts code x s (on_some o f)
  at_some None h = record { by = tt }
  at_some (Some y) h = h y refl

  at_many : {X : Type 0} {f : List X → List Cell → Next} (of : Cell → Option X) → ((c : Cell) (y : X) (st : List Cell) → of c ≡ Some y → associated (c ∷ st) ≡ associated st) →
      (k : ℕ) (ys : List X) (stack : List Cell) → Same s stack → ((ys : List X) (st : List Cell) → Same s st → Shifts code x s (f ys st)) → Shifts code x s (on_many of k ys stack f)
  at_many of plain zero ys stack e h = h ys stack e
  at_many of plain (suc k) ys [] e h = record { by = tt }
  at_many of plain (suc k) ys (c ∷ stack) e h = at_some (of c) (λ y is. at_many of plain k (y ∷ ys) stack (sym (plain c y stack is) ∙ e) h)

plain_argument : (c : Cell) (y : Passed) (st : List Cell) → argument_of c ≡ Some y → associated (c ∷ st) ≡ associated st
plain_argument (Level level rs) y st e = cc
plain_argument c y st e = refl

plain_choice : (c : Cell) (y : Chosen) (st : List Cell) → choice_of c ≡ Some y → associated (c ∷ st) ≡ associated st
plain_choice (Level level rs) y st e = cc
plain_choice c y st e = refl

plain_extent : (c : Cell) (y : Span) (st : List Cell) → extent_of c ≡ Some y → associated (c ∷ st) ≡ associated st
plain_extent (Level level rs) y st e = cc
plain_extent c y st e = refl

plain_selector : (c : Cell) (y : Association) (st : List Cell) → selector_of c ≡ Some y → associated (c ∷ st) ≡ associated st
plain_selector (Level level rs) y st e = cc
plain_selector c y st e = refl

-- cells that go by themselves
smooth : (n : ℕ) (st : List Cell) → associated (take n st) ≡ [] → associated (drop n st) ≡ associated st
smooth zero st e = refl
smooth (suc n) [] e = refl
smooth (suc n) (Level level rs ∷ st) e = cc
smooth (suc n) (c ∷ st) e = smooth n st e

alone : (c : Cell) (st : List Cell) → associated (c ∷ []) ≡ [] → associated (c ∷ st) ≡ associated st
alone (Level level rs) st e = cc
alone c st e = refl

first_alone : (c d : Cell) → associated (c ∷ d ∷ []) ≡ [] → (associated (c ∷ []) ≡ []) × (associated (d ∷ []) ≡ [])
first_alone (Level level rs) d e = cc
first_alone c d e = (refl, e)

swapped : (c d : Cell) (st : List Cell) → associated (c ∷ d ∷ []) ≡ [] → associated (d ∷ c ∷ st) ≡ associated (c ∷ d ∷ st)
swapped c d st e =
    let p = first_alone c d e in
    alone d (c ∷ st) p.1 ∙ alone c st p.0 ∙ sym (alone d st p.1) ∙ sym (alone c (d ∷ st) p.0)

module _ (limit : ℕ) (g : Setting) (code : Code) (v : Value) (o : Option Place) (s : State) where
  abbrev here : Here
  here = placed o s.here

  abbrev store : Store
  store = s.world.store

  abbrev Do : Instruction → Type 0
  Do x = Shifts code x s (act limit g code x v here s)

  begun_after : (ps : List Passed) (initial : List Value) → After (λ level st. (level ≡ many store) × (many st ≡ many store + 2)) store (begun ps initial here)
  begun_after ps initial = calm_then (claim_still store here) (λ done t.
      calm_then (looks_calm {P = λ n. n ≡ many store} (λ store. length store.levels) refl) (λ n e.
      bind_after (λ y st. many st ≡ many store + 1) (enter_sized store (many store) (held ps) refl) (λ y st u.
      bind_after (λ y st. many st ≡ many store + 1 + 1) (enter_sized st (many store + 1) initial u) (λ y st u.
      gives_after n (e, omega (arith, u))))))

  call_shifts : (f k : ℕ) → Do (i.Call f k)
  call_shifts f k = at_many argument_of plain_argument k [] s.stack refl (λ ps st e.
      if_shifts (nat_lt (length s.frames) limit) (by_entry ps st e (slice_get code.procedures f) refl) (stays tt))
    where
      by_entry : (ps : List Passed) (st : List Cell) → associated st ≡ associated s.stack → (o : Option Entry) → slice_get code.procedures f ≡ o →
          Shifts code (i.Call f k) s (called_at o s st here ps)
      by_entry ps st e None is = on e
      by_entry ps st e (Some y) is = performing (λ level st. (level ≡ many store) × (many st ≡ many store + 2)) (begun ps y.initial here) (begun_after ps y.initial)
          (λ level u q. Calling (record {
            number = f;
            entry = y;
            is = is;
            pc = refl;
            caller = record { pc = s.pc + 1; stack = st; here = s.here; caller = here; arguments = ps; level = level };
            frames = refl;
            here = refl;
            names = refl;
            beneath = e;
            level = q.0;
            levels = refl;
            count = q.1;
          }))

  associate_after : (vs : List Value) → After (λ level st. (level ≡ many store) × (many st ≡ many store + 1)) store
      (looks (λ store. length store.levels) >>= λ level. enter vs >>= λ done. gives level)
  associate_after vs = calm_then (looks_calm {P = λ n. n ≡ many store} (λ store. length store.levels) refl) (λ n e.
      bind_after (λ y st. many st ≡ many store + 1) (enter_sized store (many store) vs refl) (λ y st u. gives_after n (e, u)))

  associate_shifts : (k : ℕ) → Do (i.Associate k)
  associate_shifts k = at_many selector_of plain_selector k [] s.stack refl (λ found st e.
      performing (λ level st. (level ≡ many store) × (many st ≡ many store + 1)) _ (associate_after (held_by found))
      (λ level u q. Opening (record {
        selectors = k;
        act = refl;
        pc = refl;
        frames = refl;
        levels = ap (λ l. l ∷ associated st) q.0 ∙ ap (λ ls. many store ∷ ls) e;
        count = q.1;
      })))

  end_shifts : Do i.EndAssociate
  end_shifts = at_objects s.stack refl (λ rs st e. at_going st e (λ flow st' e'. at_level st' e' (λ level rs' st'' e''.
      performing (λ y st. many st ≤ level) (leave level) (leave_after store level) (λ done u q. Closing (record {
        level = level;
        frames = refl;
        names = refl;
        levels = e'';
        count = q;
      })))))

  return_shifts : Do i.Return
  return_shifts = at_objects s.stack refl (λ rs st e. at_datum st e (λ y st' e'. by_frames s.frames refl y))
    where
      by_frames : (fs : List Frame) → s.frames ≡ fs → (y : Value) → Shifts code i.Return s (returned fs s y)
      by_frames [] is y = stays tt
      by_frames (f ∷ fs) is y = performing (λ y st. many st ≤ f.level) (leave f.level) (leave_after store f.level) (λ done u q. Returning (record {
        caller = f;
        callers = is;
        names = refl;
        levels = refl;
        count = q;
      }))

  outward_shifts : Do i.Outward
  outward_shifts = by_frames s.frames refl
    where
      by_frames : (fs : List Frame) → s.frames ≡ fs → Shifts code i.Outward s (outward fs s)
      by_frames [] is = stays tt
      by_frames (f ∷ fs) is = stays (Looking (record { caller = f; others = fs; callers = is; frames = refl; names = refl; levels = refl; count = refl }))

  leave_shifts : (by : Way) (d : ℕ) → Do (i.Leave by d)
  leave_shifts by d = at_outside s.stack refl (λ outer st e. stays (Leaving (record { by = by; over = d; act = refl; pc = refl; frames = refl; levels = e; count = refl })))

  drop_shifts : Do i.Drop
  drop_shifts = by_stack s.stack refl
    where
      by_stack : (stack : List Cell) → stack ≡ s.stack → Shifts code i.Drop s (on_any stack (λ c st. Goes [] (record { pc = s.pc + 1; stack = st; here = s.here; frames = s.frames; world = s.world })))
      by_stack [] is = stays tt
      by_stack (c ∷ st) is = stays (quiet refl refl (λ q. smooth 1 (c ∷ st) (subst (λ l. associated (take 1 l) ≡ []) (sym is) q) ∙ ap associated is))

  swap_shifts : Do i.Swap
  swap_shifts = by_stack s.stack refl
    where
      by_stack : (stack : List Cell) → stack ≡ s.stack → Shifts code i.Swap s (on_any stack (λ c st. on_any st (λ d st.
          Goes [] (record { pc = s.pc + 1; stack = d ∷ c ∷ st; here = s.here; frames = s.frames; world = s.world }))))
      by_stack [] is = stays tt
      by_stack (c ∷ []) is = stays tt
      by_stack (c ∷ d ∷ st) is = stays (quiet refl refl (λ q. swapped c d st (subst (λ l. associated (take 2 l) ≡ []) (sym is) q) ∙ ap associated is))

  state_shifts : (other unallocated : ℕ) → Do (i.ByState other unallocated)
  state_shifts other unallocated = at_object s.stack refl (λ r st e. at_datum st e (λ y st' e'. by_value (get store r.path) y))
    where
      by_value : (old y : Value) → Shifts code (i.ByState other unallocated) s (branches old y other unallocated s)
      by_value (Allocated old) y = if_shifts (conforms (spans_of old) y) (on refl) (on refl)
      by_value (Number z) y = on refl
      by_value (Truth b) y = on refl
      by_value (Composite vs) y = on refl
      by_value (Array ss vs) y = on refl
      by_value Unallocated y = on refl

  failed_shifts : (d : ℕ) → Do (i.SkipIfFailed d)
  failed_shifts d = at_status s.stack refl (λ y st e. by_status y st e)
    where
      by_status : (y : Option RunError) (st : List Cell) → associated st ≡ associated s.stack → Shifts code (i.SkipIfFailed d) s (skips_failed y d s st)
      by_status None st e = on e
      by_status (Some error) st e = on e

  depart_shifts : (cycle exit : ℕ) → Do (i.Depart cycle exit)
  depart_shifts cycle exit = at_going s.stack refl (λ flow st e. by_flow flow st e)
    where
      by_flow : (flow : Flow) (st : List Cell) → associated st ≡ associated s.stack → Shifts code (i.Depart cycle exit) s (departs flow cycle exit s st)
      by_flow Onward st e = on e
      by_flow Cycled st e = on e
      by_flow Left st e = on e
      by_flow (Returned place) st e = on_in refl e

  next_object_shifts : (d : ℕ) → Do (i.NextObject d)
  next_object_shifts d = at_objects s.stack refl (λ rs st e. by_objects rs st e)
    where
      by_objects : (rs : List Reference) (st : List Cell) → associated st ≡ associated s.stack → Shifts code (i.NextObject d) s (next_object rs d s st)
      by_objects [] st e = on e
      by_objects (r ∷ rs) st e = on e

  next_argument_shifts : (k d : ℕ) → Do (i.NextArgument k d)
  next_argument_shifts k d = at_objects s.stack refl (λ rs st e. by_objects rs (is_held (passed_at k (passed_in s.frames))) st e)
    where
      by_objects : (rs : List Reference) (b : Bool) (st : List Cell) → associated st ≡ associated s.stack → Shifts code (i.NextArgument k d) s (next_argument rs b d s st)
      by_objects [] b st e = on e
      by_objects (r ∷ rs) b st e = if_shifts b (on e) (on e)

  count_next_shifts : (d : ℕ) → Do (i.CountNext d)
  count_next_shifts d = at_turns s.stack refl (λ k z st e. by_turns k z st e)
    where
      by_turns : (k : ℕ) (z : ℤ) (st : List Cell) → associated st ≡ associated s.stack → Shifts code (i.CountNext d) s (next_turn_at k z d s st)
      by_turns zero z st e = on e
      by_turns (suc k) z st e = on e

  walk_next_shifts : (d : ℕ) → Do (i.WalkNext d)
  walk_next_shifts d = at_elements s.stack refl (λ ps st e. at_object st e (λ r st' e'. by_elements ps r st' e'))
    where
      by_elements : (ps : List Path) (r : Reference) (st : List Cell) → associated st ≡ associated s.stack → Shifts code (i.WalkNext d) s (next_element ps d r s st)
      by_elements [] r st e = on e
      by_elements (p ∷ ps) r st e = on e

  routine_shifts : (t : ℕ) → Do (i.Routine t)
  routine_shifts t = at_object s.stack refl (λ r st e. by_routines code.routines r st e)
    where
      by_routines : (pcs : List ℕ) (r : Reference) (st : List Cell) → associated st ≡ associated s.stack →
          Shifts code (i.Routine t) s (routine_at pcs t (λ pc. Goes [] (record { pc = pc; stack = Object r ∷ To (s.pc + 1) s.here.place ∷ st; here = here; frames = s.frames; world = s.world }))
          (Goes [] (record { pc = s.pc + 1; stack = s.stack; here = s.here; frames = s.frames; world = s.world })))
      by_routines [] r st e = on refl
      by_routines (pc ∷ pcs) r st e = if_shifts (nat_eq t (length pcs)) (on_in refl e) (by_routines pcs r st e)

  act_shifts : (x : Instruction) → Do x
  act_shifts (i.Push c) = on refl
  act_shifts i.Plain = at_datum s.stack refl (λ y st e. on e)
  act_shifts (i.Unary c t) = at_datum s.stack refl (λ y st e. still (change_of c t y here.place) (change_still store c t y here.place) (λ z u n. there n e))
  act_shifts (i.Binary c t) = at_datum s.stack refl (λ y st e. at_datum st e (λ z st' e'. still (apply c t z y here.place) (apply_still store c t z y here.place) (λ z u n. there n e')))
  act_shifts (i.Array k) = at_many argument_of plain_argument k [] s.stack refl (λ ps st e. still _
      (built_still store (Array (record { lower = pos 1; extent = length (given ps) } ∷ []) (joined (given ps))) here) (λ z u n. there n e))
  act_shifts (i.Structure t k) = at_many argument_of plain_argument k [] s.stack refl (λ ps st e.
      still (structure (components_of (slice_index_or g.shapes t Whole)) 0 ps here >>= λ vs. built (Composite vs) here)
      (then_still store (structure_still store (components_of (slice_index_or g.shapes t Whole)) 0 ps here) (λ vs. built_still store (Composite vs) here)) (λ z u n. there n e))
  act_shifts (i.Call f k) = call_shifts f k
  act_shifts i.Result = at_datum s.stack refl (λ y st e. still (result y here) (result_still store y here) (λ z u n. there n e))
  act_shifts i.IsAllocated = at_object s.stack refl (λ r st e. still _ (looks_still store _) (λ z u n. there n e))
  act_shifts i.BoundsOfValue = at_datum s.stack refl (λ y st e. on e)
  act_shifts i.BoundsOfVariable = at_object s.stack refl (λ r st e. on e)
  act_shifts i.Size = at_bounds s.stack refl (λ ss st e. still _ (converted_still store base.Integer _ here.place) (λ z u n. there n e))
  act_shifts (i.Bound q) = at_datum s.stack refl (λ y st e. at_bounds st e (λ ss st' e'. still _ (asked_still store q ss (number_of y) here) (λ z u n. there n e')))
  act_shifts i.Load = at_object s.stack refl (λ r st e. still _ (read_still store r here) (λ z u n. there n e))
  act_shifts (i.PassValue k) = at_datum s.stack refl (λ y st e. still _ (claim_for_still store y here) (λ z u n. there n e))
  act_shifts (i.PassVariable k) = at_object s.stack refl (λ r st e. on e)
  act_shifts (i.Refer y) = still _ (named_still store g y here) (λ z u n. there n refl)
  act_shifts (i.Component k) = at_object s.stack refl (λ r st e. still _ (component_still store g k (Selected here.unit) r) (λ z u n. there n e))
  act_shifts (i.ComponentOf k) = at_object s.stack refl (λ r st e. still _ (component_still store g k (Selected here.unit) r) (λ z u n. there n e))
  act_shifts i.Contents = at_object s.stack refl (λ r st e. still _ (contents_still store r here) (λ z u n. there n e))
  act_shifts (i.Select is_opened k) = at_many choice_of plain_choice k [] s.stack refl (λ cs st e. at_object st e (λ r st' e'.
      still _ (selects_still store is_opened cs r here) (λ z u n. there n e')))
  act_shifts (i.SelectOf is_opened m k) = at_many choice_of plain_choice k [] s.stack refl (λ cs st e. at_object st e (λ q st' e'. at_object st' e' (λ r st'' e''.
      still _ (by_reach_still store r.reach (selects_still store is_opened cs q here) (picks_in_each_still store _ q cs here)) (λ z u n. there n e''))))
  act_shifts i.Subscript = at_datum s.stack refl (λ y st e. on e)
  act_shifts i.Limit = at_datum s.stack refl (λ y st e. on e)
  act_shifts i.NoLimit = on refl
  act_shifts i.Triplet = at_datum s.stack refl (λ y st e. at_bound st e (λ z st' e'. at_bound st' e' (λ z' st'' e''. on e'')))
  act_shifts i.TestShape = at_object s.stack refl (λ r st e. at_datum st e (λ y st' e'. still _ (tested_still store _ ShapesDiffer here) (λ z u n. there n refl)))
  act_shifts (i.ByState other unallocated) = state_shifts other unallocated
  act_shifts (i.TestRank rank) = at_object s.stack refl (λ r st e. at_datum st e (λ y st' e'. still _ (tested_still store _ NotAllocated here) (λ z u n. there n refl)))
  act_shifts (i.New rank) = at_object s.stack refl (λ r st e. at_datum st e (λ y st' e'.
      sized _ (calm_then (claim_still store here) (λ d t. set_sized store r (Allocated (vacant rank (spans_of y) v)) here)) (λ z u n. there n refl)))
  act_shifts (i.Take of) = at_object s.stack refl (λ r st e. at_datum st e (λ y st' e'.
      sized _ (calm_then (converted_still store of y here.place) (λ z t. calm_then (claim_for_still store z here) (λ d t. set_sized store r z here))) (λ z u n. there n e')))
  act_shifts (i.Fill of) = at_object s.stack refl (λ r st e. at_datum st e (λ y st' e'.
      sized _ (calm_then (converted_still store of y here.place) (λ z t. set_sized store r z here)) (λ z u n. there n e')))
  act_shifts i.Begin = still _ (begins_still store here) (λ z u n. there n refl)
  act_shifts i.Drop = drop_shifts
  act_shifts (i.Unwind k) = stays (quiet refl refl (λ q. smooth k s.stack q))
  act_shifts i.Swap = swap_shifts
  act_shifts i.LendBoth = at_object s.stack refl (λ r st e. at_object st e (λ q st' e'. on_in refl refl))
  act_shifts i.TakeOver = at_object s.stack refl (λ r st e. at_object st e (λ q st' e'.
      sized _ (calm_then (looks_still store (λ store. get store q.path)) (λ y t. take_over_sized store g q r y here)) (λ z u n. quiet refl n (λ m. e'))))
  act_shifts i.Dimension = at_datum s.stack refl (λ y st e. at_datum st e (λ z st' e'. on e'))
  act_shifts (i.Allocate rank k) = at_many extent_of plain_extent k [] s.stack refl (λ ss st e. at_object st e (λ r st' e'.
      sized _ (allocate_sized store rank v r ss here) (λ z u n. there n e')))
  act_shifts (i.TestFree d) = at_object s.stack refl (λ r st e. if_shifts (is_allocated (get store r.path)) (if_shifts (is_pinned r.path here.lent) (on e) (on refl)) (on e))
  act_shifts i.NoError = on refl
  act_shifts (i.SkipIfFailed d) = failed_shifts d
  act_shifts i.Check = at_status s.stack refl (λ y st e. still _ (checked_still store y here) (λ z u n. there n e))
  act_shifts i.StoreStatus = at_object s.stack refl (λ r st e. at_status st e (λ y st' e'. sized _
      (set_sized store r (Number (pos (status_number y))) here) (λ z u n. there n e')))
  act_shifts i.PrintValue = at_datum s.stack refl (λ y st e. still _ (print_still store y) (λ z u n. there n e))
  act_shifts (i.PrintByte b) = still _ (prints_still store (b ∷ [])) (λ z u n. there n refl)
  act_shifts (i.Stop number) = stays tt
  act_shifts i.SetPlace = on_in refl refl
  act_shifts (i.GoOn d) = on refl
  act_shifts (i.GoBack d) = on refl
  act_shifts (i.SkipIfFalse d) = at_datum s.stack refl (λ y st e. if_shifts (truth_of y) (on e) (on e))
  act_shifts (i.SkipIfTrue d) = at_datum s.stack refl (λ y st e. if_shifts (truth_of y) (on e) (on e))
  act_shifts (i.Meets r) = on refl
  act_shifts i.Selecting = at_datum s.stack refl (λ y st e. on_in refl e)
  act_shifts (i.Leave by d) = leave_shifts by d
  act_shifts (i.Depart cycle exit) = depart_shifts cycle exit
  act_shifts i.SelectVariable = at_object s.stack refl (λ r st e. on e)
  act_shifts (i.SelectValue of) = at_datum s.stack refl (λ y st e. still _ (claim_for_still store y here) (λ z u n. there n e))
  act_shifts (i.Associate k) = associate_shifts k
  act_shifts i.Associated = at_going s.stack refl (λ flow st e. at_level st e (λ level rs st' e'. on refl))
  act_shifts (i.NextObject d) = next_object_shifts d
  act_shifts i.EndAssociate = end_shifts
  act_shifts (i.Convert of) = at_datum s.stack refl (λ y st e. still _ (converted_still store of y here.place) (λ z u n. there n e))
  act_shifts i.TestStep = at_datum s.stack refl (λ y st e. still _ (unless_still store (number_of y) here) (λ z u n. there n refl))
  act_shifts i.CountBegin = at_object s.stack refl (λ r st e. at_datum st e (λ by st1 e1. at_datum st1 e1 (λ last st2 e2. at_datum st2 e2 (λ start st3 e3.
      sized _ (set_sized store r start here) (λ z u n. there n e3)))))
  act_shifts (i.CountNext d) = count_next_shifts d
  act_shifts (i.CountUp of) = at_object s.stack refl (λ r st e. at_turns st e (λ k by st' e'.
      sized _ (calm_then (looks_still store (λ store. get store r.path)) (λ old t. calm_then (converted_still store of _ here.place) (λ y t. set_sized store r y here)))
      (λ z u n. there n e)))
  act_shifts i.Lend = at_object s.stack refl (λ r st e. on_in refl refl)
  act_shifts i.Unlend = on_in refl refl
  act_shifts (i.SkipUnlessRank rank d) = at_object s.stack refl (λ r st e. if_shifts (nat_eq rank (length (spans r.reach))) (on refl) (on refl))
  act_shifts i.PassObject = at_object s.stack refl (λ r st e. on refl)
  act_shifts (i.Routine t) = routine_shifts t
  act_shifts i.Back = at_object s.stack refl (λ r st e. at_to st e (λ pc place st' e'. on_in refl e'))
  act_shifts (i.WorkComponent k) = at_object s.stack refl (λ r st e. still _ (component_still store g k Language r) (λ z u n. there n refl))
  act_shifts i.WalkBegin = at_object s.stack refl (λ r st e. on refl)
  act_shifts (i.WalkNext d) = walk_next_shifts d
  act_shifts (i.SkipUnlessAllocated d) = at_object s.stack refl (λ r st e. if_shifts (is_allocated (get store r.path)) (on refl) (on refl))
  act_shifts i.OpenContents = at_object s.stack refl (λ r st e. still _ (opens_still store r here) (λ z u n. there n refl))
  act_shifts i.Free = at_object s.stack refl (λ r st e. sized _ (set_sized store r Unallocated here) (λ z u n. there n refl))
  act_shifts i.Clear = at_object s.stack refl (λ r st e. sized _ (clear_sized store r here) (λ z u n. there n refl))
  act_shifts i.Set = at_object s.stack refl (λ r st e. sized _ (set_sized store r v here) (λ z u n. there n refl))
  act_shifts i.Discard = on refl
  act_shifts i.Dummies = on refl
  act_shifts (i.ResultOf y) = still (looks (result_at y s.here.level) >>= λ z. built z here)
      (then_still store (looks_still store (result_at y s.here.level)) (λ z. built_still store z here)) (λ z u n. there n refl)
  act_shifts i.Outward = outward_shifts
  act_shifts (i.NextArgument k d) = next_argument_shifts k d
  act_shifts i.Return = return_shifts
  act_shifts i.Finish = stays tt

-- what a line does
pub line_shifts : (limit : ℕ) (g : Setting) (code : Code) (l : Line) (s t : State) (out : List Event) → act limit g code l.act l.value (placed l.place s.here) s ≡ Goes out t →
    Shift code l.act s t
line_shifts limit g code l s t out e = subst (λ n. ShiftsNext code l.act s n) e (act_shifts limit g code l.value l.place s l.act).by
