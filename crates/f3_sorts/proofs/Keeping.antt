-- What instructions do keeps to sorts: the parts.
use Rattle.std.proofs.Common.{◌≡◌, refl, ap, ℕ, zero, suc, ℤ, Bool, true, false, List, [], ◌∷◌, ◌++◌, Option, Some, sym, subst, append_assoc, if◌then◌else◌}
use Rattle.f3_places.specs.declared.source.Place.{Place}
use Rattle.f3_meaning_whole.specs.Value.{Span, Value}
use Rattle.f3_meaning_whole.specs.Store.{Path}
use Rattle.f3_meaning_whole.specs.Reference.{Reference}
use Rattle.f3_meaning_whole.specs.declared.run_error.RunError.{RunError}
use Rattle.f3_meaning_whole.specs.Ran.{Event, World, End, Gives, Fails, Stops, Beyond, Ran}
use Rattle.f3_meaning_whole.specs.Act.{Here, Passed, Chosen}
use Rattle.f3_meaning_whole.specs.Exec.{Flow, Association}
use Rattle.f3_code.specs.State as state
use Rattle.f3_code.specs.State.{Cell, Datum, Object, Bound, Bounds, Status, Turns, Elements, Objects, To, Level, Outside, Going, Frame, State, Next, Goes}
use Rattle.f3_code.specs.Machine.{ends_so, performs, on_datum, on_object, on_bound, on_bounds, on_status, on_turns, on_elements, on_objects, on_to, on_level, on_outside, on_going, on_any, on_some, on_many, argument_of, choice_of, extent_of, selector_of}
use Rattle.f3_sorts.specs.Effect.{Sort, sort_of, times}
use Rattle.f3_sorts.specs.Effect as sort
use Rattle.f3_sorts.proofs.Ending.{IsEnd, Ends}
use Rattle.f3_sorts.specs.Sorts.{Stand, FramesFit, Fits}

-- the cells of a sort
is_datum : (c : Cell) → sort_of c ≡ Some sort.Datum → (v : Value) × (c ≡ Datum v)
is_datum (Datum v) e = (v, refl)
is_datum c e = cc

is_object : (c : Cell) → sort_of c ≡ Some sort.Object → (r : Reference) × (c ≡ Object r)
is_object (Object r) e = (r, refl)
is_object c e = cc

is_bound : (c : Cell) → sort_of c ≡ Some sort.Bound → (z : Option ℤ) × (c ≡ Bound z)
is_bound (Bound z) e = (z, refl)
is_bound c e = cc

is_bounds : (c : Cell) → sort_of c ≡ Some sort.Bounds → (ss : List Span) × (c ≡ Bounds ss)
is_bounds (Bounds ss) e = (ss, refl)
is_bounds c e = cc

is_status : (c : Cell) → sort_of c ≡ Some sort.Status → (x : Option RunError) × (c ≡ Status x)
is_status (Status x) e = (x, refl)
is_status c e = cc

is_elements : (c : Cell) → sort_of c ≡ Some sort.Elements → (ps : List Path) × (c ≡ Elements ps)
is_elements (Elements ps) e = (ps, refl)
is_elements c e = cc

is_objects : (c : Cell) → sort_of c ≡ Some sort.Objects → (rs : List Reference) × (c ≡ Objects rs)
is_objects (Objects rs) e = (rs, refl)
is_objects c e = cc

is_outside : (c : Cell) → sort_of c ≡ Some sort.Outside → (here : Here) × (c ≡ Outside here)
is_outside (Outside here) e = (here, refl)
is_outside c e = cc

is_going : (c : Cell) → sort_of c ≡ Some sort.Going → (flow : Flow) × (c ≡ Going flow)
is_going (Going flow) e = (flow, refl)
is_going c e = cc

is_turns : (c : Cell) → sort_of c ≡ Some sort.Turns → (k : ℕ) × (step : ℤ) × (c ≡ Turns k step)
is_turns (Turns k step) e = (k, step, refl)
is_turns c e = cc

is_level : (c : Cell) → sort_of c ≡ Some sort.Level → (level : ℕ) × (rs : List Reference) × (c ≡ Level level rs)
is_level (Level level rs) e = (level, rs, refl)
is_level c e = cc

pub is_argument : (c : Cell) → sort_of c ≡ Some sort.Argument → (x : Passed) × (argument_of c ≡ Some x)
is_argument (state.Argument x) e = (x, refl)
is_argument c e = cc

pub is_choice : (c : Cell) → sort_of c ≡ Some sort.Choice → (x : Chosen) × (choice_of c ≡ Some x)
is_choice (state.Choice x) e = (x, refl)
is_choice c e = cc

pub is_extent : (c : Cell) → sort_of c ≡ Some sort.Extent → (x : Span) × (extent_of c ≡ Some x)
is_extent (state.Extent x) e = (x, refl)
is_extent c e = cc

pub is_selector : (c : Cell) → sort_of c ≡ Some sort.Selector → (x : Association) × (selector_of c ≡ Some x)
is_selector (state.Selector x) e = (x, refl)
is_selector c e = cc

module _ (sorts : ℕ → List Sort) where
  -- cells of such sorts, and what is beneath
  pub record Has (xs : List Sort) (stack : List Cell) : Type 0 where
    pub by : Stand sorts xs stack

  -- the cells of a line
  pub took : {pc : ℕ} {xs : List Sort} (stack : List Cell) → sorts pc ≡ xs → Stand sorts (sorts pc) stack → Has xs stack
  took stack e h = record { by = subst (λ l. Stand sorts l stack) e h }

  -- some, and a few more beneath
  pub more : (xs ys rest : List Sort) (stack : List Cell) → Has ((xs ++ ys) ++ rest) stack → Has (xs ++ (ys ++ rest)) stack
  more xs ys rest stack h = subst (λ l. Has l stack) (append_assoc xs ys rest) h

  pub on_top : {c : Cell} {x : Sort} {xs : List Sort} {stack : List Cell} → sort_of c ≡ Some x → Has xs stack → Has (x ∷ xs) (c ∷ stack)
  on_top e h = record { by = (e, h.by) }

  -- a state at a line with such cells
  pub fit : {pc : ℕ} {xs : List Sort} {stack : List Cell} {here : Here} {frames : List Frame} {w : World} → sorts pc ≡ xs → Has xs stack →
      FramesFit sorts frames → Fits sorts (record { pc = pc; stack = stack; here = here; frames = frames; world = w })
  fit {stack = stack} e h fs = record { stack = subst (λ l. Stand sorts l stack) (sym e) h.by; frames = fs }

-- `Lacks` is what an instruction that is stuck lacks other than cells of their sorts
module _ (sorts : ℕ → List Sort) (Lacks : Type 0) where
  abbrev pub FitsNext : Next → Type 0
  FitsNext (Goes out t) = Fits sorts t
  FitsNext (state.Stays out state.Stuck) = Lacks
  FitsNext (state.Stays out halt) = Unit {0}

  -- where it goes, the cells are of the sorts that are told; where it is stuck, it lacks something else
  pub record Keeps (n : Next) : Type 0 where
    pub by : FitsNext n

  pub stays_so : {n : Next} → FitsNext n → Keeps n
  stays_so h = record { by = h }

  -- the same, where an instruction goes
  pub goes_there : {out : List Event} {pc : ℕ} {xs : List Sort} {stack : List Cell} {here : Here} {frames : List Frame} {w : World} →
      sorts pc ≡ xs → Has sorts xs stack → FramesFit sorts frames →
      Keeps (Goes out (record { pc = pc; stack = stack; here = here; frames = frames; world = w }))
  goes_there e h fs = record { by = fit sorts e h fs }

  pub performing : {A : Type 0} (r : Ran A) (w : World) {f : A → World → State} → Ends r → ((x : A) (w : World) → Fits sorts (f x w)) → Keeps (performs r w f)
  performing {A = A} r w {f = f} ends h = record { by = by_end (r.from w).out (r.from w).end (ends.by w) }
    where
      by_end : (out : List Event) (end : End A) → IsEnd end → FitsNext (ends_so out end f)
      by_end out (Gives x w) is = h x w
      by_end out (Fails error place) is = tt
      by_end out (Stops code) is = tt
      by_end out Beyond is = absurd is

  pub if_keeps : (x : Bool) {m n : Next} → Keeps m → Keeps n → Keeps (if x then m else n)
  if_keeps true h k = h
  if_keeps false h k = k

  -- ---- what stands on top

  pub at_datum : {rest : List Sort} {f : Value → List Cell → Next} (stack : List Cell) → Has sorts (sort.Datum ∷ rest) stack →
      ((v : Value) (st : List Cell) → Has sorts rest st → Keeps (f v st)) → Keeps (on_datum stack f)
  at_datum [] s h = absurd s.by
  at_datum {f = f} (c ∷ stack) s h =
      let is = is_datum c s.by.0 in subst (λ c. Keeps (on_datum (c ∷ stack) f)) (sym is.1) (h is.0 stack (record { by = s.by.1 }))

  pub at_object : {rest : List Sort} {f : Reference → List Cell → Next} (stack : List Cell) → Has sorts (sort.Object ∷ rest) stack →
      ((r : Reference) (st : List Cell) → Has sorts rest st → Keeps (f r st)) → Keeps (on_object stack f)
  at_object [] s h = absurd s.by
  at_object {f = f} (c ∷ stack) s h =
      let is = is_object c s.by.0 in subst (λ c. Keeps (on_object (c ∷ stack) f)) (sym is.1) (h is.0 stack (record { by = s.by.1 }))

  pub at_bound : {rest : List Sort} {f : (Option ℤ) → List Cell → Next} (stack : List Cell) → Has sorts (sort.Bound ∷ rest) stack →
      ((z : Option ℤ) (st : List Cell) → Has sorts rest st → Keeps (f z st)) → Keeps (on_bound stack f)
  at_bound [] s h = absurd s.by
  at_bound {f = f} (c ∷ stack) s h =
      let is = is_bound c s.by.0 in subst (λ c. Keeps (on_bound (c ∷ stack) f)) (sym is.1) (h is.0 stack (record { by = s.by.1 }))

  pub at_bounds : {rest : List Sort} {f : (List Span) → List Cell → Next} (stack : List Cell) → Has sorts (sort.Bounds ∷ rest) stack →
      ((ss : List Span) (st : List Cell) → Has sorts rest st → Keeps (f ss st)) → Keeps (on_bounds stack f)
  at_bounds [] s h = absurd s.by
  at_bounds {f = f} (c ∷ stack) s h =
      let is = is_bounds c s.by.0 in subst (λ c. Keeps (on_bounds (c ∷ stack) f)) (sym is.1) (h is.0 stack (record { by = s.by.1 }))

  pub at_status : {rest : List Sort} {f : (Option RunError) → List Cell → Next} (stack : List Cell) → Has sorts (sort.Status ∷ rest) stack →
      ((x : Option RunError) (st : List Cell) → Has sorts rest st → Keeps (f x st)) → Keeps (on_status stack f)
  at_status [] s h = absurd s.by
  at_status {f = f} (c ∷ stack) s h =
      let is = is_status c s.by.0 in subst (λ c. Keeps (on_status (c ∷ stack) f)) (sym is.1) (h is.0 stack (record { by = s.by.1 }))

  pub at_elements : {rest : List Sort} {f : (List Path) → List Cell → Next} (stack : List Cell) → Has sorts (sort.Elements ∷ rest) stack →
      ((ps : List Path) (st : List Cell) → Has sorts rest st → Keeps (f ps st)) → Keeps (on_elements stack f)
  at_elements [] s h = absurd s.by
  at_elements {f = f} (c ∷ stack) s h =
      let is = is_elements c s.by.0 in subst (λ c. Keeps (on_elements (c ∷ stack) f)) (sym is.1) (h is.0 stack (record { by = s.by.1 }))

  pub at_objects : {rest : List Sort} {f : (List Reference) → List Cell → Next} (stack : List Cell) → Has sorts (sort.Objects ∷ rest) stack →
      ((rs : List Reference) (st : List Cell) → Has sorts rest st → Keeps (f rs st)) → Keeps (on_objects stack f)
  at_objects [] s h = absurd s.by
  at_objects {f = f} (c ∷ stack) s h =
      let is = is_objects c s.by.0 in subst (λ c. Keeps (on_objects (c ∷ stack) f)) (sym is.1) (h is.0 stack (record { by = s.by.1 }))

  pub at_outside : {rest : List Sort} {f : Here → List Cell → Next} (stack : List Cell) → Has sorts (sort.Outside ∷ rest) stack →
      ((here : Here) (st : List Cell) → Has sorts rest st → Keeps (f here st)) → Keeps (on_outside stack f)
  at_outside [] s h = absurd s.by
  at_outside {f = f} (c ∷ stack) s h =
      let is = is_outside c s.by.0 in subst (λ c. Keeps (on_outside (c ∷ stack) f)) (sym is.1) (h is.0 stack (record { by = s.by.1 }))

  pub at_going : {rest : List Sort} {f : Flow → List Cell → Next} (stack : List Cell) → Has sorts (sort.Going ∷ rest) stack →
      ((flow : Flow) (st : List Cell) → Has sorts rest st → Keeps (f flow st)) → Keeps (on_going stack f)
  at_going [] s h = absurd s.by
  at_going {f = f} (c ∷ stack) s h =
      let is = is_going c s.by.0 in subst (λ c. Keeps (on_going (c ∷ stack) f)) (sym is.1) (h is.0 stack (record { by = s.by.1 }))

  pub at_turns : {rest : List Sort} {f : ℕ → ℤ → List Cell → Next} (stack : List Cell) → Has sorts (sort.Turns ∷ rest) stack →
      ((k : ℕ) (step : ℤ) (st : List Cell) → Has sorts rest st → Keeps (f k step st)) → Keeps (on_turns stack f)
  at_turns [] s h = absurd s.by
  at_turns {f = f} (c ∷ stack) s h =
      let is = is_turns c s.by.0 in subst (λ c. Keeps (on_turns (c ∷ stack) f)) (sym is.2) (h is.0 is.1 stack (record { by = s.by.1 }))

  pub at_level : {rest : List Sort} {f : ℕ → List Reference → List Cell → Next} (stack : List Cell) → Has sorts (sort.Level ∷ rest) stack →
      ((level : ℕ) (rs : List Reference) (st : List Cell) → Has sorts rest st → Keeps (f level rs st)) → Keeps (on_level stack f)
  at_level [] s h = absurd s.by
  at_level {f = f} (c ∷ stack) s h =
      let is = is_level c s.by.0 in subst (λ c. Keeps (on_level (c ∷ stack) f)) (sym is.2) (h is.0 is.1 stack (record { by = s.by.1 }))

  pub at_any : {x : Sort} {rest : List Sort} {f : Cell → List Cell → Next} (stack : List Cell) → Has sorts (x ∷ rest) stack →
      ((c : Cell) (st : List Cell) → sort_of c ≡ Some x → Has sorts rest st → Keeps (f c st)) → Keeps (on_any stack f)
  at_any [] s h = absurd s.by
  at_any (c ∷ stack) s h = h c stack s.by.0 (record { by = s.by.1 })

  -- the way back of a routine
  at_to : {f : ℕ → Place → List Cell → Next} (stack : List Cell) → Has sorts [] stack → (stack ≡ [] → Lacks) →
      ((pc : ℕ) (place : Place) (st : List Cell) (rest : List Sort) → sorts pc ≡ sort.Object ∷ rest → Has sorts rest st → Keeps (f pc place st)) → Keeps (on_to stack f)
  at_to [] s none h = record { by = none refl }
  at_to (To pc place ∷ stack) s none h = h pc place stack s.by.0 s.by.1 (record { by = s.by.2 })
  at_to (c ∷ stack) s none h = absurd s.by

  -- an object above it, alone
  pub at_back : {f : Reference → ℕ → Place → List Cell → Next} (stack : List Cell) → Has sorts (sort.Object ∷ []) stack →
      ((c : Cell) → stack ≡ c ∷ [] → Lacks) →
      ((r : Reference) (pc : ℕ) (place : Place) (st : List Cell) (rest : List Sort) → sorts pc ≡ sort.Object ∷ rest → Has sorts rest st → Keeps (f r pc place st)) →
      Keeps (on_object stack (λ r st. on_to st (f r)))
  at_back [] s none h = absurd s.by
  at_back {f = f} (c ∷ stack) s none h =
      let is = is_object c s.by.0 in
      let under : Has sorts [] stack = record { by = s.by.1 } in
      subst (λ c. Keeps (on_object (c ∷ stack) (λ r st. on_to st (f r)))) (sym is.1)
      (at_to stack under (λ e. none c (ap (λ l. c ∷ l) e)) (h is.0))

  at_some : {X : Type 0} (f : X → Next) (o : Option X) (x : X) → o ≡ Some x → Keeps (f x) → Keeps (on_some o f)
  at_some f o x e h = subst (λ o. Keeps (on_some o f)) (sym e) h

  pub at_many : (x : Sort) {X : Type 0} {rest : List Sort} {f : List X → List Cell → Next} (of : Cell → Option X) →
      ((c : Cell) → sort_of c ≡ Some x → (y : X) × (of c ≡ Some y)) → (k : ℕ) (xs : List X) (stack : List Cell) →
      Has sorts (times k x ++ rest) stack → ((xs : List X) (st : List Cell) → Has sorts rest st → Keeps (f xs st)) → Keeps (on_many of k xs stack f)
  at_many x of is zero xs stack s h = h xs stack s
  at_many x of is (suc k) xs [] s h = absurd s.by
  at_many x {f = f} of is (suc k) xs (c ∷ stack) s h =
      let y = is c s.by.0 in
      at_some (λ y. on_many of k (y ∷ xs) stack f) (of c) y.0 y.1 (at_many x of is k (y.0 ∷ xs) stack (record { by = s.by.1 }) h)
