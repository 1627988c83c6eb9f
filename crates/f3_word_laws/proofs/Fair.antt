-- Parts of runs that do not fail for want of room where the heap grants all that is asked.
use Rattle.std.proofs.Common.{◌≡◌, ℕ, zero, suc, ℤ, Bool, true, false, List, [], ◌∷◌, Option, None, Some, sym, subst, if◌then◌else◌}
use Rattle.std.specs.Prelude.{⊤}
use Rattle.f3_places.specs.declared.source.Place.{Place}
use Rattle.f3_meaning_whole.specs.Value.{Span, Value}
use Rattle.f3_meaning_whole.specs.Store.{Store}
use Rattle.f3_meaning_whole.specs.Reference.{Reach, One, Many, Reference}
use Rattle.f3_meaning_whole.specs.declared.run_error.RunError.{RunError}
use Rattle.f3_meaning_whole.specs.declared.run_error.RunError.TheVariants as error
use Rattle.f3_meaning_whole.specs.Ran.{Event, World, End, Gives, Fails, Stops, Beyond, Ran, go_on, ◌>>=◌, gives, fails, looks, does, asks, prints_bytes, each}
use Rattle.f3_meaning_whole.specs.Act.{Here, claim}
use Rattle.f3_meaning_whole.specs.Eval.{by_reach}
use Rattle.f3_meaning_whole.specs.Exec.{Flow}
use Rattle.f3_code.specs.State.{Cell, Datum, Object, Bound, Bounds, Turns, Objects, Level, Outside, Going, State, Next, Goes, Stays, Halt, Failed}
use Rattle.f3_code.specs.State as s
use Rattle.f3_code.specs.Machine.{ends_so, performs, on_datum, on_object, on_bound, on_bounds, on_turns, on_objects, on_level, on_outside, on_going, on_any, on_some, on_many}

-- no request is refused
abbrev pub AllGranted : (ℕ → Bool) → Type 0
AllGranted answers = (n : ℕ) → answers n ≡ false

-- an error that is not for want of room
abbrev pub IsOther : RunError → Type 0
IsOther error.HeapHasNoRoom = ⊥
IsOther e = ⊤

abbrev pub IsFairEnd : {A : Type 0} → End A → Type 0
IsFairEnd (Gives x w) = AllGranted w.answers
IsFairEnd (Fails error place) = IsOther error
IsFairEnd (Stops code) = ⊤
IsFairEnd Beyond = ⊤

pub record Fair {A : Type 0} (r : Ran A) : Type 0 where
  pub ends : (w : World) → AllGranted w.answers → IsFairEnd (r.from w).end

pub gives_fair : {A : Type 0} (x : A) → Fair (gives x)
unfolding gives
gives_fair x = record { ends = λ w a. a }

pub fails_fair : {A : Type 0} (error : RunError) (place : Place) → IsOther error → Fair (fails {A = A} error place)
unfolding fails
fails_fair error place other = record { ends = λ w a. other }

pub looks_fair : {A : Type 0} (f : Store → A) → Fair (looks f)
unfolding looks
looks_fair f = record { ends = λ w a. a }

pub does_fair : (events : Store → List Event) → Fair (does events)
unfolding does
does_fair events = record { ends = λ w a. a }

pub prints_fair : (bytes : List ℕ) → Fair (prints_bytes bytes)
unfolding prints_bytes
prints_fair bytes = does_fair _

followed : {A B : Type 0} (f : A → Ran B) → ((x : A) → Fair (f x)) → (out : List Event) (end : End A) → IsFairEnd end → IsFairEnd (go_on out end f).end
followed f k out (Gives x w) h = (k x).ends w h
followed f k out (Fails error place) h = h
followed f k out (Stops code) h = h
followed f k out Beyond h = h

pub bind_fair : {A B : Type 0} {m : Ran A} {f : A → Ran B} → Fair m → ((x : A) → Fair (f x)) → Fair (m >>= f)
unfolding ◌>>=◌
bind_fair {A = A} {B = B} {m = m} {f = f} h k = record { ends = λ w a. followed f k (m.from w).out (m.from w).end (h.ends w a) }

pub if_fair : {A : Type 0} (b : Bool) {x y : Ran A} → Fair x → Fair y → Fair (if b then x else y)
if_fair true h k = h
if_fair false h k = k

pub reach_fair : {A : Type 0} (reach : Reach) {x y : Ran A} → Fair x → Fair y → Fair (by_reach reach x y)
reach_fair One h k = h
reach_fair (Many ss ps) h k = k

pub each_fair : {A : Type 0} (xs : List A) {act : A → Ran ⊤} → ((x : A) → Fair (act x)) → Fair (each xs act)
each_fair [] h = gives_fair tt
each_fair (x ∷ xs) h = bind_fair (h x) (λ done. each_fair xs h)

-- storage is claimed
claimed : (here : Here) (b : Bool) → b ≡ false → (w : World) → AllGranted w.answers
    → IsFairEnd ((if b then fails {A = ⊤} error.HeapHasNoRoom here.place else gives tt).from w).end
unfolding fails gives
claimed here true e w a = absurd cc
claimed here false e w a = a

pub claim_fair : (here : Here) → Fair (claim here)
unfolding ◌>>=◌ asks
claim_fair here = record { ends = λ w a. claimed here (w.answers 0) (a 0) (record { store = w.store; answers = λ i. w.answers (suc i) }) (λ n. a (suc n)) }

-- ---- what an instruction does

abbrev pub IsFairHalt : Halt → Type 0
IsFairHalt (Failed error place) = IsOther error
IsFairHalt halt = ⊤

abbrev pub EndsFair : Next → Type 0
EndsFair (Goes out u) = AllGranted (u.world).answers
EndsFair (Stays out halt) = IsFairHalt halt

pub record IsFair (n : Next) : Type 0 where
  pub so : EndsFair n

pub fine : {n : Next} → EndsFair n → IsFair n
fine h = record { so = h }

ended : {A : Type 0} (f : A → World → State) → ((x : A) (u : World) → AllGranted u.answers → AllGranted ((f x u).world).answers) → (out : List Event) (end : End A) → IsFairEnd end
    → IsFair (ends_so out end f)
ended f keeps out (Gives x w) h = fine (keeps x w h)
ended f keeps out (Fails error place) h = fine h
ended f keeps out (Stops code) h = fine tt
ended f keeps out Beyond h = fine tt

pub performing : {A : Type 0} {r : Ran A} → Fair r → (w : World) → AllGranted w.answers → (f : A → World → State)
    → ((x : A) (u : World) → AllGranted u.answers → AllGranted ((f x u).world).answers) → IsFair (performs r w f)
performing {r = r} h w a f keeps = ended f keeps (r.from w).out (r.from w).end (h.ends w a)

pub if_so : (x : Bool) {m n : Next} → IsFair m → IsFair n → IsFair (if x then m else n)
if_so true h k = h
if_so false h k = k

-- ---- what stands on top

pub at_datum : (stack : List Cell) {f : Value → List Cell → Next} → ((v : Value) (st : List Cell) → IsFair (f v st)) → IsFair (on_datum stack f)
at_datum (Datum v ∷ stack) h = h v stack
at_datum stack h = fine tt

pub at_object : (stack : List Cell) {f : Reference → List Cell → Next} → ((r : Reference) (st : List Cell) → IsFair (f r st)) → IsFair (on_object stack f)
at_object (Object r ∷ stack) h = h r stack
at_object stack h = fine tt

pub at_bound : (stack : List Cell) {f : Option ℤ → List Cell → Next} → ((z : Option ℤ) (st : List Cell) → IsFair (f z st)) → IsFair (on_bound stack f)
at_bound (Bound z ∷ stack) h = h z stack
at_bound stack h = fine tt

pub at_bounds : (stack : List Cell) {f : List Span → List Cell → Next} → ((ss : List Span) (st : List Cell) → IsFair (f ss st)) → IsFair (on_bounds stack f)
at_bounds (Bounds ss ∷ stack) h = h ss stack
at_bounds stack h = fine tt

pub at_turns : (stack : List Cell) {f : ℕ → ℤ → List Cell → Next} → ((k : ℕ) (step : ℤ) (st : List Cell) → IsFair (f k step st)) → IsFair (on_turns stack f)
at_turns (Turns k step ∷ stack) h = h k step stack
at_turns stack h = fine tt

pub at_objects : (stack : List Cell) {f : List Reference → List Cell → Next} → ((rs : List Reference) (st : List Cell) → IsFair (f rs st)) → IsFair (on_objects stack f)
at_objects (Objects rs ∷ stack) h = h rs stack
at_objects stack h = fine tt

pub at_level : (stack : List Cell) {f : ℕ → List Reference → List Cell → Next} → ((level : ℕ) (rs : List Reference) (st : List Cell) → IsFair (f level rs st)) → IsFair (on_level stack f)
at_level (Level level rs ∷ stack) h = h level rs stack
at_level stack h = fine tt

pub at_outside : (stack : List Cell) {f : Here → List Cell → Next} → ((here : Here) (st : List Cell) → IsFair (f here st)) → IsFair (on_outside stack f)
at_outside (Outside here ∷ stack) h = h here stack
at_outside stack h = fine tt

pub at_going : (stack : List Cell) {f : Flow → List Cell → Next} → ((flow : Flow) (st : List Cell) → IsFair (f flow st)) → IsFair (on_going stack f)
at_going (Going flow ∷ stack) h = h flow stack
at_going stack h = fine tt

pub at_any : (stack : List Cell) {f : Cell → List Cell → Next} → ((x : Cell) (st : List Cell) → IsFair (f x st)) → IsFair (on_any stack f)
at_any [] h = fine tt
at_any (x ∷ stack) h = h x stack

at_some : {X : Type 0} (o : Option X) {f : X → Next} → ((x : X) → IsFair (f x)) → IsFair (on_some o f)
at_some None h = fine tt
at_some (Some x) h = h x

pub at_many : {X : Type 0} (of : Cell → Option X) (k : ℕ) (xs : List X) (stack : List Cell) {f : List X → List Cell → Next} → ((xs : List X) (st : List Cell) → IsFair (f xs st))
    → IsFair (on_many of k xs stack f)
at_many of zero xs stack h = h xs stack
at_many of (suc k) xs [] h = fine tt
at_many of (suc k) xs (x ∷ stack) h = at_some (of x) (λ y. at_many of k (y ∷ xs) stack h)
