-- What instructions do keeps to what cells hold: the parts.
use Rattle.std.proofs.Common.{◌≡◌, refl, ap, ℕ, zero, suc, ℤ, Bool, true, false, List, [], ◌∷◌, Option, sym, subst, if◌then◌else◌}
use Rattle.f3_program.specs.declared.declarations.Derived.{Derived}
use Rattle.f3_program.specs.declared.declarations.Base.{Base}
use Rattle.f3_program.specs.declared.declarations.Kind.{Kind}
use Rattle.f3_meaning_whole.specs.Value.{Span, Value}
use Rattle.f3_meaning_whole.specs.Store.{Path}
use Rattle.f3_meaning_whole.specs.Reference.{Reference}
use Rattle.f3_meaning_whole.specs.declared.run_error.RunError.{RunError}
use Rattle.f3_meaning_whole.specs.Ran.{Event, World, End, Gives, Fails, Stops, Beyond, Ran}
use Rattle.f3_meaning_whole.specs.Act.{Here}
use Rattle.f3_meaning_whole.specs.Exec.{Flow}
use Rattle.f3_code.specs.State as state
use Rattle.f3_code.specs.State.{Cell, To, Frame, State, Next, Goes, Stays}
use Rattle.f3_code.specs.Machine.{ends_so, performs, on_datum, on_object, on_bound, on_bounds, on_status, on_turns, on_elements, on_objects, on_level, on_outside, on_going, on_any, on_many, extent_of}
use Rattle.f3_cell_kinds.specs.Types.{Scope, Around, Told, Untold, InRoutine, CellType, Site}
use Rattle.f3_cell_kinds.specs.Types as cell
use Rattle.f3_cell_kinds.specs.Effect.{extents_on}
use Rattle.f3_cell_kinds.specs.Holds.{Refers, AllRefer, IsOf, Knows, Is, InScope, Stand, FramesHold, Fits}
use Rattle.f3_cell_kinds.proofs.Yielding.{IsGiven, Yields}

module _ (types : List Derived) (sites : ℕ → Site) where
  -- cells of such types, and what is beneath
  pub record Has (Known : Scope → Type 0) (o : Around) (r end : Kind) (xs : List CellType) (stack : List Cell) : Type 0 where
    pub by : Stand types sites Known o r xs stack end

  -- in a procedure it is no matter what statements may name
  pub elsewhere : {Known Known' : Scope → Type 0} {o : Around} {r end : Kind} (o' : Around) (xs : List CellType) (stack : List Cell) → (o ≡ InRoutine → ⊥) →
      Has Known o r end xs stack → Has Known' o' r end xs stack
  elsewhere o' [] [] other h = record { by = h.by }
  elsewhere o' (x ∷ xs) [] other h = absurd h.by
  elsewhere o' [] (To back place ∷ below) other h = absurd (other h.by.0)
  elsewhere {Known = Known} {Known' = Known'} {o = o} {r = r} {end = end} o' (x ∷ xs) (c ∷ below) other h =
      record { by = (h.by.0, (elsewhere {Known = Known} {Known' = Known'} {o = o} {r = r} {end = end} o' xs below other (record { by = h.by.1 })).by) }
  elsewhere o' [] (c ∷ below) other h = absurd h.by

  -- and it returns with what is said
  pub returns_end : {Known : Scope → Type 0} {o : Around} {r end : Kind} (xs : List CellType) (stack : List Cell) → (o ≡ InRoutine → ⊥) → Has Known o r end xs stack → r ≡ end
  returns_end [] [] other h = h.by
  returns_end (x ∷ xs) [] other h = absurd h.by
  returns_end [] (To back place ∷ below) other h = absurd (other h.by.0)
  returns_end {Known = Known} {o = o} {r = r} {end = end} (x ∷ xs) (c ∷ below) other h =
      returns_end {Known = Known} {o = o} {r = r} {end = end} xs below other (record { by = h.by.1 })
  returns_end [] (c ∷ below) other h = absurd h.by

  -- a state at a line with such cells
  pub fit : {pc : ℕ} {r end : Kind} {o : Around} {xs : List CellType} {stack : List Cell} {here : Here} {frames : List Frame} {w : World} →
      sites pc ≡ record { is_reached = true; returns = r; scope = o; cells = xs } → InScope types (Knows types here) o →
      Has (Knows types here) o r end xs stack → FramesHold types sites end frames →
      Fits types sites (record { pc = pc; stack = stack; here = here; frames = frames; world = w })
  fit {end = end} {stack = stack} {here = here} e known h fs = record {
    is_reached = ap (λ (z : Site). z.is_reached) e;
    scope = subst (λ (z : Site). InScope types (Knows types here) z.scope) (sym e) known;
    end = end;
    stack = subst (λ (z : Site). Stand types sites (Knows types here) z.scope z.returns z.cells stack end) (sym e) h.by;
    frames = fs;
  }

  abbrev pub FitsNext : Next → Type 0
  FitsNext (Goes out t) = Fits types sites t
  FitsNext (Stays out halt) = Unit {0}

  -- where it goes, the cells hold what their types say
  pub record Keeps (n : Next) : Type 0 where
    pub by : FitsNext n

  pub stays_so : {out : List Event} {halt : state.Halt} → Keeps (Stays out halt)
  stays_so = record { by = tt }

  pub goes_so : {out : List Event} {t : State} → Fits types sites t → Keeps (Goes out t)
  goes_so h = record { by = h }

  pub performing : {A : Type 0} {P : A → Type 0} (r : Ran A) (w : World) {f : A → World → State} → Yields P r → ((x : A) → P x → (w : World) → Fits types sites (f x w)) → Keeps (performs r w f)
  performing {A = A} {P = P} r w {f = f} yields h = record { by = by_end (r.from w).out (r.from w).end (yields.by w) }
    where
      by_end : (out : List Event) (end : End A) → IsGiven P end → FitsNext (ends_so out end f)
      by_end out (Gives x w) is = h x is w
      by_end out (Fails error place) is = tt
      by_end out (Stops code) is = tt
      by_end out Beyond is = tt

  pub if_keeps : (x : Bool) {m n : Next} → (x ≡ true → Keeps m) → (x ≡ false → Keeps n) → Keeps (if x then m else n)
  if_keeps true h k = h refl
  if_keeps false h k = k refl

  module _ (Known : Scope → Type 0) (o : Around) (r end : Kind) where
    abbrev Cells : List CellType → List Cell → Type 0
    Cells xs stack = Has Known o r end xs stack

    -- the cells of a line
    pub took : {cs xs : List CellType} (stack : List Cell) → cs ≡ xs → Stand types sites Known o r cs stack end → Cells xs stack
    took stack e h = record { by = subst (λ l. Stand types sites Known o r l stack end) e h }

    pub on_top : {c : Cell} {x : CellType} {xs : List CellType} {stack : List Cell} → Is types x c → Cells xs stack → Cells (x ∷ xs) (c ∷ stack)
    on_top e h = record { by = (e, h.by) }

    -- ---- what stands on top

    pub at_datum : {k : Kind} {rest : List CellType} {f : Value → List Cell → Next} (stack : List Cell) → Cells (cell.Datum k ∷ rest) stack →
        ((v : Value) (st : List Cell) → IsOf types k v → Cells rest st → Keeps (f v st)) → Keeps (on_datum stack f)
    at_datum [] s h = absurd s.by
    at_datum (state.Datum v ∷ st) s h = h v st s.by.0 (record { by = s.by.1 })
    at_datum (c ∷ st) s h = stays_so

    pub at_object : {k : Kind} {rest : List CellType} {f : Reference → List Cell → Next} (stack : List Cell) → Cells (cell.Object k ∷ rest) stack →
        ((q : Reference) (st : List Cell) → Refers k q → Cells rest st → Keeps (f q st)) → Keeps (on_object stack f)
    at_object [] s h = absurd s.by
    at_object (state.Object q ∷ st) s h = h q st s.by.0 (record { by = s.by.1 })
    at_object (c ∷ st) s h = stays_so

    pub at_bound : {rest : List CellType} {f : (Option ℤ) → List Cell → Next} (stack : List Cell) → Cells (cell.Bound ∷ rest) stack →
        ((z : Option ℤ) (st : List Cell) → Cells rest st → Keeps (f z st)) → Keeps (on_bound stack f)
    at_bound [] s h = absurd s.by
    at_bound (state.Bound z ∷ st) s h = h z st (record { by = s.by.1 })
    at_bound (c ∷ st) s h = stays_so

    pub at_bounds : {n : ℕ} {rest : List CellType} {f : (List Span) → List Cell → Next} (stack : List Cell) → Cells (cell.Bounds n ∷ rest) stack →
        ((ss : List Span) (st : List Cell) → Cells rest st → Keeps (f ss st)) → Keeps (on_bounds stack f)
    at_bounds [] s h = absurd s.by
    at_bounds (state.Bounds ss ∷ st) s h = h ss st (record { by = s.by.1 })
    at_bounds (c ∷ st) s h = stays_so

    pub at_status : {rest : List CellType} {f : (Option RunError) → List Cell → Next} (stack : List Cell) → Cells (cell.Status ∷ rest) stack →
        ((x : Option RunError) (st : List Cell) → Cells rest st → Keeps (f x st)) → Keeps (on_status stack f)
    at_status [] s h = absurd s.by
    at_status (state.Status x ∷ st) s h = h x st (record { by = s.by.1 })
    at_status (c ∷ st) s h = stays_so

    pub at_turns : {rest : List CellType} {f : ℕ → ℤ → List Cell → Next} (stack : List Cell) → Cells (cell.Turns ∷ rest) stack →
        ((k : ℕ) (step : ℤ) (st : List Cell) → Cells rest st → Keeps (f k step st)) → Keeps (on_turns stack f)
    at_turns [] s h = absurd s.by
    at_turns (state.Turns k step ∷ st) s h = h k step st (record { by = s.by.1 })
    at_turns (c ∷ st) s h = stays_so

    pub at_elements : {b : Base} {rest : List CellType} {f : (List Path) → List Cell → Next} (stack : List Cell) → Cells (cell.Elements b ∷ rest) stack →
        ((ps : List Path) (st : List Cell) → Cells rest st → Keeps (f ps st)) → Keeps (on_elements stack f)
    at_elements [] s h = absurd s.by
    at_elements (state.Elements ps ∷ st) s h = h ps st (record { by = s.by.1 })
    at_elements (c ∷ st) s h = stays_so

    pub at_objects : {ks : List Kind} {rest : List CellType} {f : (List Reference) → List Cell → Next} (stack : List Cell) → Cells (cell.Objects ks ∷ rest) stack →
        ((rs : List Reference) (st : List Cell) → AllRefer ks rs → Cells rest st → Keeps (f rs st)) → Keeps (on_objects stack f)
    at_objects [] s h = absurd s.by
    at_objects (state.Objects rs ∷ st) s h = h rs st s.by.0 (record { by = s.by.1 })
    at_objects (c ∷ st) s h = stays_so

    pub at_level : {ks : List Kind} {rest : List CellType} {f : ℕ → (List Reference) → List Cell → Next} (stack : List Cell) → Cells (cell.Level ks ∷ rest) stack →
        ((n : ℕ) (rs : List Reference) (st : List Cell) → AllRefer ks rs → Cells rest st → Keeps (f n rs st)) → Keeps (on_level stack f)
    at_level [] s h = absurd s.by
    at_level (state.Level n rs ∷ st) s h = h n rs st s.by.0 (record { by = s.by.1 })
    at_level (c ∷ st) s h = stays_so

    pub at_outside : {c : Scope} {rest : List CellType} {f : Here → List Cell → Next} (stack : List Cell) → Cells (cell.Outside c ∷ rest) stack →
        ((here : Here) (st : List Cell) → Knows types here c → Cells rest st → Keeps (f here st)) → Keeps (on_outside stack f)
    at_outside [] s h = absurd s.by
    at_outside (state.Outside here ∷ st) s h = h here st s.by.0 (record { by = s.by.1 })
    at_outside (c ∷ st) s h = stays_so

    pub at_going : {rest : List CellType} {f : Flow → List Cell → Next} (stack : List Cell) → Cells (cell.Going ∷ rest) stack →
        ((flow : Flow) (st : List Cell) → Cells rest st → Keeps (f flow st)) → Keeps (on_going stack f)
    at_going [] s h = absurd s.by
    at_going (state.Going flow ∷ st) s h = h flow st (record { by = s.by.1 })
    at_going (c ∷ st) s h = stays_so

    pub at_any : {x : CellType} {rest : List CellType} {f : Cell → List Cell → Next} (stack : List Cell) → Cells (x ∷ rest) stack →
        ((c : Cell) (st : List Cell) → Is types x c → Cells rest st → Keeps (f c st)) → Keeps (on_any stack f)
    at_any [] s h = absurd s.by
    at_any (c ∷ stack) s h = h c stack s.by.0 (record { by = s.by.1 })

    front : (n : ℕ) (h : List CellType) → extents_on (suc n) h ≡ cell.Extent ∷ extents_on n h
    front zero h = refl
    front (suc n) h = front n (cell.Extent ∷ h)

    pub at_extents : {h : List CellType} {f : List Span → List Cell → Next} (n : ℕ) (ss : List Span) (stack : List Cell) → Cells (extents_on n h) stack →
        ((ss : List Span) (st : List Cell) → Cells h st → Keeps (f ss st)) → Keeps (on_many extent_of n ss stack f)
    at_extents zero ss stack s k = k ss stack s
    at_extents (suc n) ss [] s k = stays_so
    at_extents {h = h} (suc n) ss (state.Extent x ∷ stack) s k =
        let t = subst (λ l. Stand types sites Known o r l (state.Extent x ∷ stack) end) (front n h) s.by in
        at_extents n (x ∷ ss) stack (record { by = t.1 }) k
    at_extents (suc n) ss (c ∷ stack) s k = stays_so
