-- What instructions do keeps to heights: the parts.
use Rattle.std.proofs.Common.{◌≡◌, ℕ, zero, suc, ◌+◌, ℤ, Bool, true, false, List, [], ◌∷◌, length, Option, Some, None, sym, refl, ◌∙◌, ap, subst, arith, if◌then◌else◌}
use Rattle.f3_places.specs.declared.source.Place.{Place}
use Rattle.f3_meaning_whole.specs.Value.{Span, Value}
use Rattle.f3_meaning_whole.specs.Store.{Path}
use Rattle.f3_meaning_whole.specs.Reference.{Reference}
use Rattle.f3_meaning_whole.specs.declared.run_error.RunError.{RunError}
use Rattle.f3_meaning_whole.specs.Ran.{Event, World, End, Gives, Fails, Stops, Beyond, Ran}
use Rattle.f3_meaning_whole.specs.Act.{Here}
use Rattle.f3_meaning_whole.specs.Exec.{Flow}
use Rattle.f3_code.specs.State as state
use Rattle.f3_code.specs.State.{Cell, Datum, Object, Bound, Bounds, Status, Turns, Elements, Objects, To, Level, Outside, Going, Frame, State, Next, Goes}
use Rattle.f3_code.specs.Machine.{ends_so, performs, on_datum, on_object, on_bound, on_bounds, on_status, on_turns, on_elements, on_objects, on_to, on_level, on_outside, on_going, on_any, on_some, on_many}
use Rattle.f3_heights.specs.Room.{Change, Stays}

-- so many more
abbrev pub above : ℕ → ℕ → ℕ
above zero rest = rest
above (suc k) rest = suc (above k rest)

pub plus_above : (k rest : ℕ) → k + rest ≡ above k rest
plus_above zero rest = let e : 0 + rest ≡ rest = omega arith in e
plus_above (suc k) rest = let e : suc k + rest ≡ suc (k + rest) = omega arith in e ∙ ap suc (plus_above k rest)

above_above : (k l rest : ℕ) → above (k + l) rest ≡ above k (above l rest)
above_above k l rest =
    let e : k + l + rest ≡ k + (l + rest) = omega arith in
    sym (plus_above (k + l) rest) ∙ e ∙ ap (λ m. k + m) (plus_above l rest) ∙ plus_above k (above l rest)

-- What is said of the cells of an activation: how many stand at a line, a mark of that line, and what stands beneath so many, by
-- what the activation needs in all and the mark.
pub record Plan : Type 1 where
  pub height : ℕ → ℕ
  pub mark : ℕ → ℕ
  pub under : ℕ → ℕ → List Cell → Type 0

-- so many cells, and what is beneath them
abbrev pub Above : Plan → ℕ → ℕ → ℕ → List Cell → Type 0
Above a need mark zero stack = a.under need mark stack
Above a need mark (suc h) [] = ⊥
Above a need mark (suc h) (c ∷ below) = Above a need mark h below

abbrev pub FramesIn : Plan → List ℕ → List Frame → Type 0
FramesIn a [] [] = Unit {0}
FramesIn a (need ∷ needs) (f ∷ fs) = (h : ℕ) × (a.height f.pc ≡ suc h) × Above a need (a.mark f.pc) h f.stack × FramesIn a needs fs
FramesIn a needs fs = ⊥

pub as_many : (a : Plan) (needs : List ℕ) (fs : List Frame) → FramesIn a needs fs → length needs ≡ length fs
as_many a [] [] h = refl
as_many a [] (f ∷ fs) h = absurd h
as_many a (n ∷ ns) [] h = absurd h
as_many a (n ∷ ns) (f ∷ fs) h = ap suc (as_many a ns fs h.3)

pub record FitsIn (a : Plan) (need : ℕ) (needs : List ℕ) (s : State) : Type 0 where
  pub stack : Above a need (a.mark s.pc) (a.height s.pc) s.stack
  pub frames : FramesIn a needs s.frames

-- what a routine leads back to stands beneath its way back; a procedure begins with nothing, and needs what its mark says
pub record Rules (a : Plan) : Type 0 where
  pub back : (need mark pc : ℕ) (place : Place) (st : List Cell) → a.under need mark (To pc place ∷ st) →
      (h : ℕ) × (a.height pc ≡ suc h) × Above a need (a.mark pc) h st
  pub begin : (mark : ℕ) → a.under mark mark []

-- where a step leads, and with what needs
pub record Ahead (limit : ℕ) (a : Plan) (need : ℕ) (needs : List ℕ) (t : State) : Type 0 where
  pub top : ℕ
  pub others : List ℕ
  pub change : Change limit need needs (a.mark t.pc) top others
  pub fits : FitsIn a top others t

module _ (limit : ℕ) (a : Plan) (need : ℕ) (needs : List ℕ) where
  abbrev pub FitsNext : Next → Type 0
  FitsNext (Goes out t) = Ahead limit a need needs t
  FitsNext (state.Stays out halt) = Unit {0}

  -- where it goes, the cells are those that the heights say
  pub record Keeps (n : Next) : Type 0 where
    pub by : FitsNext n

  pub stays_so : {n : Next} → FitsNext n → Keeps n
  stays_so h = record { by = h }

  -- the cells of a line
  pub took : (mark : ℕ) {pc : ℕ} (rest : ℕ) (stack : List Cell) (k : ℕ) → a.height pc ≡ k + rest → Above a need mark (a.height pc) stack →
      Above a need mark (above k rest) stack
  took mark rest stack k e h = subst (λ n. Above a need mark n stack) (e ∙ plus_above k rest) h

  -- so many, and a few more beneath
  pub more : (mark k l rest : ℕ) (stack : List Cell) → Above a need mark (above (k + l) rest) stack → Above a need mark (above k (above l rest)) stack
  more mark k l rest stack h = subst (λ n. Above a need mark n stack) (above_above k l rest) h

  -- a state at a line with so many cells, in the same activation
  pub fit : {pc mark : ℕ} {stack : List Cell} {here : Here} {frames : List Frame} {w : World} (rest k : ℕ) → a.height pc ≡ k + rest → a.mark pc ≡ mark →
      Above a need mark (above k rest) stack → FramesIn a needs frames →
      Ahead limit a need needs (record { pc = pc; stack = stack; here = here; frames = frames; world = w })
  fit {pc = pc} {stack = stack} rest k e same h fs =
      let there = subst (λ m. Above a need m (above k rest) stack) (sym same) h in record {
        top = need;
        others = needs;
        change = Stays refl refl;
        fits = record { stack = subst (λ n. Above a need (a.mark pc) n stack) (sym (e ∙ plus_above k rest)) there; frames = fs };
      }

  -- the same, where an instruction goes
  pub goes_there : {out : List Event} {pc mark : ℕ} {stack : List Cell} {here : Here} {frames : List Frame} {w : World} (rest k : ℕ) →
      a.height pc ≡ k + rest → a.mark pc ≡ mark → Above a need mark (above k rest) stack → FramesIn a needs frames →
      Keeps (Goes out (record { pc = pc; stack = stack; here = here; frames = frames; world = w }))
  goes_there rest k e same h fs = record { by = fit rest k e same h fs }

  pub performing : {A : Type 0} (r : Ran A) (w : World) {f : A → World → State} → ((x : A) (w : World) → Ahead limit a need needs (f x w)) → Keeps (performs r w f)
  performing {A = A} r w {f = f} h = record { by = by_end (r.from w).out (r.from w).end }
    where
      by_end : (out : List Event) (end : End A) → FitsNext (ends_so out end f)
      by_end out (Gives x w) = h x w
      by_end out (Fails error place) = tt
      by_end out (Stops code) = tt
      by_end out Beyond = tt

  pub if_keeps : (x : Bool) {m n : Next} → Keeps m → Keeps n → Keeps (if x then m else n)
  if_keeps true h k = h
  if_keeps false h k = k

  pub if_known : (x : Bool) {m n : Next} → (x ≡ true → Keeps m) → Keeps n → Keeps (if x then m else n)
  if_known true h k = h refl
  if_known false h k = k

  -- ---- what stands on top

  pub at_datum : (mark rest : ℕ) {f : Value → List Cell → Next} (stack : List Cell) → Above a need mark (suc rest) stack →
      ((v : Value) (st : List Cell) → Above a need mark rest st → Keeps (f v st)) → Keeps (on_datum stack f)
  at_datum mark rest (Datum v ∷ stack) s h = h v stack s
  at_datum mark rest stack s h = record { by = tt }

  pub at_object : (mark rest : ℕ) {f : Reference → List Cell → Next} (stack : List Cell) → Above a need mark (suc rest) stack →
      ((r : Reference) (st : List Cell) → Above a need mark rest st → Keeps (f r st)) → Keeps (on_object stack f)
  at_object mark rest (Object r ∷ stack) s h = h r stack s
  at_object mark rest stack s h = record { by = tt }

  pub at_bound : (mark rest : ℕ) {f : (Option ℤ) → List Cell → Next} (stack : List Cell) → Above a need mark (suc rest) stack →
      ((z : Option ℤ) (st : List Cell) → Above a need mark rest st → Keeps (f z st)) → Keeps (on_bound stack f)
  at_bound mark rest (Bound z ∷ stack) s h = h z stack s
  at_bound mark rest stack s h = record { by = tt }

  pub at_bounds : (mark rest : ℕ) {f : (List Span) → List Cell → Next} (stack : List Cell) → Above a need mark (suc rest) stack →
      ((ss : List Span) (st : List Cell) → Above a need mark rest st → Keeps (f ss st)) → Keeps (on_bounds stack f)
  at_bounds mark rest (Bounds ss ∷ stack) s h = h ss stack s
  at_bounds mark rest stack s h = record { by = tt }

  pub at_status : (mark rest : ℕ) {f : (Option RunError) → List Cell → Next} (stack : List Cell) → Above a need mark (suc rest) stack →
      ((x : Option RunError) (st : List Cell) → Above a need mark rest st → Keeps (f x st)) → Keeps (on_status stack f)
  at_status mark rest (Status x ∷ stack) s h = h x stack s
  at_status mark rest stack s h = record { by = tt }

  pub at_elements : (mark rest : ℕ) {f : (List Path) → List Cell → Next} (stack : List Cell) → Above a need mark (suc rest) stack →
      ((ps : List Path) (st : List Cell) → Above a need mark rest st → Keeps (f ps st)) → Keeps (on_elements stack f)
  at_elements mark rest (Elements ps ∷ stack) s h = h ps stack s
  at_elements mark rest stack s h = record { by = tt }

  pub at_objects : (mark rest : ℕ) {f : (List Reference) → List Cell → Next} (stack : List Cell) → Above a need mark (suc rest) stack →
      ((rs : List Reference) (st : List Cell) → Above a need mark rest st → Keeps (f rs st)) → Keeps (on_objects stack f)
  at_objects mark rest (Objects rs ∷ stack) s h = h rs stack s
  at_objects mark rest stack s h = record { by = tt }

  pub at_outside : (mark rest : ℕ) {f : Here → List Cell → Next} (stack : List Cell) → Above a need mark (suc rest) stack →
      ((here : Here) (st : List Cell) → Above a need mark rest st → Keeps (f here st)) → Keeps (on_outside stack f)
  at_outside mark rest (Outside here ∷ stack) s h = h here stack s
  at_outside mark rest stack s h = record { by = tt }

  pub at_going : (mark rest : ℕ) {f : Flow → List Cell → Next} (stack : List Cell) → Above a need mark (suc rest) stack →
      ((flow : Flow) (st : List Cell) → Above a need mark rest st → Keeps (f flow st)) → Keeps (on_going stack f)
  at_going mark rest (Going flow ∷ stack) s h = h flow stack s
  at_going mark rest stack s h = record { by = tt }

  pub at_turns : (mark rest : ℕ) {f : ℕ → ℤ → List Cell → Next} (stack : List Cell) → Above a need mark (suc rest) stack →
      ((k : ℕ) (step : ℤ) (st : List Cell) → Above a need mark rest st → Keeps (f k step st)) → Keeps (on_turns stack f)
  at_turns mark rest (Turns k step ∷ stack) s h = h k step stack s
  at_turns mark rest stack s h = record { by = tt }

  pub at_level : (mark rest : ℕ) {f : ℕ → List Reference → List Cell → Next} (stack : List Cell) → Above a need mark (suc rest) stack →
      ((level : ℕ) (rs : List Reference) (st : List Cell) → Above a need mark rest st → Keeps (f level rs st)) → Keeps (on_level stack f)
  at_level mark rest (Level level rs ∷ stack) s h = h level rs stack s
  at_level mark rest stack s h = record { by = tt }

  pub at_any : (mark rest : ℕ) {f : Cell → List Cell → Next} (stack : List Cell) → Above a need mark (suc rest) stack →
      ((c : Cell) (st : List Cell) → Above a need mark rest st → Keeps (f c st)) → Keeps (on_any stack f)
  at_any mark rest [] s h = record { by = tt }
  at_any mark rest (c ∷ stack) s h = h c stack s

  -- the way back of a routine
  pub at_to : (mark : ℕ) {f : ℕ → Place → List Cell → Next} (stack : List Cell) → Rules a → Above a need mark 0 stack →
      ((pc : ℕ) (place : Place) (st : List Cell) (h : ℕ) → a.height pc ≡ suc h → Above a need (a.mark pc) h st → Keeps (f pc place st)) → Keeps (on_to stack f)
  at_to mark (To pc place ∷ stack) rules s h = let b = rules.back need mark pc place stack s in h pc place stack b.0 b.1 b.2
  at_to mark stack rules s h = record { by = tt }

  at_some : {X : Type 0} {f : X → Next} (o : Option X) → ((x : X) → Keeps (f x)) → Keeps (on_some o f)
  at_some None h = record { by = tt }
  at_some (Some x) h = h x

  pub at_many : {X : Type 0} (mark rest : ℕ) {f : List X → List Cell → Next} (of : Cell → Option X) (k : ℕ) (xs : List X) (stack : List Cell) →
      Above a need mark (above k rest) stack → ((xs : List X) (st : List Cell) → Above a need mark rest st → Keeps (f xs st)) → Keeps (on_many of k xs stack f)
  at_many mark rest of zero xs stack s h = h xs stack s
  at_many mark rest of (suc k) xs [] s h = record { by = tt }
  at_many mark rest of (suc k) xs (c ∷ stack) s h = at_some (of c) (λ x. at_many mark rest of k (x ∷ xs) stack s h)
