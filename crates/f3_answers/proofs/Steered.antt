-- What instructions do, where any answers of a heap can follow.
use Rattle.std.proofs.Common.{◌≡◌, ℕ, zero, suc, ℤ, Bool, true, false, List, [], ◌∷◌, Option, None, Some, refl, ap, ◌∙◌, if◌then◌else◌}
use Rattle.f3_places.specs.declared.source.Place.{Place}
use Rattle.f3_meaning_whole.specs.Value.{Span, Value}
use Rattle.f3_meaning_whole.specs.Store.{Store, Path}
use Rattle.f3_meaning_whole.specs.Reference.{Reference}
use Rattle.f3_meaning_whole.specs.declared.run_error.RunError.{RunError}
use Rattle.f3_meaning_whole.specs.Ran.{Event, World, End, Gives, Fails, Stops, Beyond, Ran}
use Rattle.f3_meaning_whole.specs.Act.{Here}
use Rattle.f3_meaning_whole.specs.Exec.{Flow}
use Rattle.f3_code.specs.State.{Cell, Datum, Object, Bound, Bounds, Status, Turns, Elements, Objects, To, Level, Outside, Going, State, Next, Goes, Stays}
use Rattle.f3_code.specs.Machine.{ends_so, performs, on_datum, on_object, on_bound, on_bounds, on_status, on_turns, on_elements, on_objects, on_to, on_level, on_outside, on_going, on_any, on_some, on_many}
use Rattle.f3_code.specs.Heap.{granted, with_answers}
use Rattle.f3_answers.proofs.Regular.{Regular, AllGranted, ahead, world_with, end_with}

-- the state to which it goes, with these answers instead
abbrev pub next_with : (ℕ → Bool) → Next → Next
next_with a (Goes out s) = Goes out (with_answers a s)
next_with a (Stays out halt) = Stays out halt

-- With these answers, whatever comes behind them, the same is done as with those, and what comes behind is left; they are granted where
-- all of those are.
pub record Takes (n : (ℕ → Bool) → Next) (c : ℕ → Bool) (given : List Bool) : Type 0 where
  pub same : (a : ℕ → Bool) → n (ahead given a) ≡ next_with a (n c)
  pub granted : c ≡ granted → AllGranted given

pub record Steered (n : (ℕ → Bool) → Next) : Type 0 where
  pub steer : (c : ℕ → Bool) → (given : List Bool) × Takes n c given

-- where no answer is asked for
pub straight : {n : (ℕ → Bool) → Next} → ((c a : ℕ → Bool) → n a ≡ next_with a (n c)) → Steered n
straight h = record { steer = λ c. ([], record { same = h c; granted = λ e. tt }) }

ended : {A : Type 0} (f : (ℕ → Bool) → A → World → State) → ((b c a : ℕ → Bool) (x : A) (w : World) → f b x (world_with a w) ≡ with_answers a (f c x w)) →
    (b c a : ℕ → Bool) (out : List Event) (end : End A) → ends_so out (end_with a end) (f b) ≡ next_with a (ends_so out end (f c))
ended f e b c a out (Gives x w) = ap (Goes out) (e b c a x w)
ended f e b c a out (Fails error place) = refl
ended f e b c a out (Stops code) = refl
ended f e b c a out Beyond = refl

pub performing : {A : Type 0} {r : Ran A} (store : Store) (f : (ℕ → Bool) → A → World → State) → Regular r →
    ((b c a : ℕ → Bool) (x : A) (w : World) → f b x (world_with a w) ≡ with_answers a (f c x w)) →
    Steered (λ b. performs r (record { store = store; answers = b }) (f b))
performing {A = A} {r = r} store f h e = record {
  steer = λ c.
      let w : World = record { store = store; answers = c } in
      let found = h.follow w in (
        found.0,
        record {
          same = λ a.
              ap (λ o. ends_so o.out o.end (f (ahead found.0 a))) (found.1.same a)
              ∙ ended f e (ahead found.0 a) c a (r.from w).out (r.from w).end;
          granted = found.1.granted;
        },
      );
}

pub if_steered : (x : Bool) {m n : (ℕ → Bool) → Next} → Steered m → Steered n → Steered (λ b. if x then m b else n b)
if_steered true h k = h
if_steered false h k = k

-- ---- what stands on top

pub at_datum : (stack : List Cell) {f : (ℕ → Bool) → Value → List Cell → Next} → ((v : Value) (st : List Cell) → Steered (λ b. f b v st)) → Steered (λ b. on_datum stack (f b))
at_datum (Datum v ∷ stack) h = h v stack
at_datum stack h = straight (λ c a. refl)

pub at_object : (stack : List Cell) {f : (ℕ → Bool) → Reference → List Cell → Next} → ((r : Reference) (st : List Cell) → Steered (λ b. f b r st)) → Steered (λ b. on_object stack (f b))
at_object (Object r ∷ stack) h = h r stack
at_object stack h = straight (λ c a. refl)

pub at_bound : (stack : List Cell) {f : (ℕ → Bool) → Option ℤ → List Cell → Next} → ((z : Option ℤ) (st : List Cell) → Steered (λ b. f b z st)) → Steered (λ b. on_bound stack (f b))
at_bound (Bound z ∷ stack) h = h z stack
at_bound stack h = straight (λ c a. refl)

pub at_bounds : (stack : List Cell) {f : (ℕ → Bool) → List Span → List Cell → Next} → ((ss : List Span) (st : List Cell) → Steered (λ b. f b ss st)) → Steered (λ b. on_bounds stack (f b))
at_bounds (Bounds ss ∷ stack) h = h ss stack
at_bounds stack h = straight (λ c a. refl)

pub at_status : (stack : List Cell) {f : (ℕ → Bool) → Option RunError → List Cell → Next} → ((x : Option RunError) (st : List Cell) → Steered (λ b. f b x st)) → Steered (λ b. on_status stack (f b))
at_status (Status x ∷ stack) h = h x stack
at_status stack h = straight (λ c a. refl)

pub at_turns : (stack : List Cell) {f : (ℕ → Bool) → ℕ → ℤ → List Cell → Next} → ((k : ℕ) (step : ℤ) (st : List Cell) → Steered (λ b. f b k step st)) → Steered (λ b. on_turns stack (f b))
at_turns (Turns k step ∷ stack) h = h k step stack
at_turns stack h = straight (λ c a. refl)

pub at_elements : (stack : List Cell) {f : (ℕ → Bool) → List Path → List Cell → Next} → ((ps : List Path) (st : List Cell) → Steered (λ b. f b ps st)) → Steered (λ b. on_elements stack (f b))
at_elements (Elements ps ∷ stack) h = h ps stack
at_elements stack h = straight (λ c a. refl)

pub at_objects : (stack : List Cell) {f : (ℕ → Bool) → List Reference → List Cell → Next} → ((rs : List Reference) (st : List Cell) → Steered (λ b. f b rs st)) → Steered (λ b. on_objects stack (f b))
at_objects (Objects rs ∷ stack) h = h rs stack
at_objects stack h = straight (λ c a. refl)

pub at_to : (stack : List Cell) {f : (ℕ → Bool) → ℕ → Place → List Cell → Next} → ((pc : ℕ) (place : Place) (st : List Cell) → Steered (λ b. f b pc place st)) → Steered (λ b. on_to stack (f b))
at_to (To pc place ∷ stack) h = h pc place stack
at_to stack h = straight (λ c a. refl)

pub at_level : (stack : List Cell) {f : (ℕ → Bool) → ℕ → List Reference → List Cell → Next} → ((level : ℕ) (rs : List Reference) (st : List Cell) → Steered (λ b. f b level rs st)) → Steered (λ b. on_level stack (f b))
at_level (Level level rs ∷ stack) h = h level rs stack
at_level stack h = straight (λ c a. refl)

pub at_outside : (stack : List Cell) {f : (ℕ → Bool) → Here → List Cell → Next} → ((here : Here) (st : List Cell) → Steered (λ b. f b here st)) → Steered (λ b. on_outside stack (f b))
at_outside (Outside here ∷ stack) h = h here stack
at_outside stack h = straight (λ c a. refl)

pub at_going : (stack : List Cell) {f : (ℕ → Bool) → Flow → List Cell → Next} → ((flow : Flow) (st : List Cell) → Steered (λ b. f b flow st)) → Steered (λ b. on_going stack (f b))
at_going (Going flow ∷ stack) h = h flow stack
at_going stack h = straight (λ c a. refl)

pub at_any : (stack : List Cell) {f : (ℕ → Bool) → Cell → List Cell → Next} → ((x : Cell) (st : List Cell) → Steered (λ b. f b x st)) → Steered (λ b. on_any stack (f b))
at_any [] h = straight (λ c a. refl)
at_any (x ∷ stack) h = h x stack

at_some : {X : Type 0} (o : Option X) {f : (ℕ → Bool) → X → Next} → ((x : X) → Steered (λ b. f b x)) → Steered (λ b. on_some o (f b))
at_some None h = straight (λ c a. refl)
at_some (Some x) h = h x

pub at_many : {X : Type 0} (of : Cell → Option X) (k : ℕ) (xs : List X) (stack : List Cell) {f : (ℕ → Bool) → List X → List Cell → Next} →
    ((xs : List X) (st : List Cell) → Steered (λ b. f b xs st)) → Steered (λ b. on_many of k xs stack (f b))
at_many of zero xs stack h = h xs stack
at_many of (suc k) xs [] h = straight (λ c a. refl)
at_many of (suc k) xs (x ∷ stack) h = at_some (of x) (λ y. at_many of k (y ∷ xs) stack h)
