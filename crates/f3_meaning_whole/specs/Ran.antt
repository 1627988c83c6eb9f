-- Parts of runs, one behind another. What happens in a run are events, and the store changes by them alone.
use Rattle.std.specs.Prelude.{⊤, ℕ, suc, Bool, List, [], ◌∷◌, ◌++◌, Option, map, take}
use Rattle.f3_places.specs.declared.source.Place.{Place}
use Rattle.f3_meaning_whole.specs.declared.run_error.RunError.{RunError}
use Rattle.f3_meaning_whole.specs.Value.{Value}
use Rattle.f3_meaning_whole.specs.Store.{Store, put_all}
use Rattle.f3_meaning_whole.specs.Reference.{Reference, paths}

-- a change of the store: the reference through which it was made, and the executing unit
pub record Change : Type 0 where
  pub reference : Reference
  pub executing : ℕ

-- the state as a statement, or the END of a procedure or of the program, begins: the store, and what is lent
pub record Stage : Type 0 where
  pub store : Store
  pub lent : List Reference

-- A byte is printed; the objects of a reference take these values; a statement begins; a level with these values begins;
-- a level and all behind it end; a request of an ALLOCATE is granted or refused.
pub data Event : Type 0 where
  Printed : (byte : ℕ) → Event
  Changed : (change : Change) (values : List Value) → Event
  Began : (stage : Stage) → Event
  Entered : (values : List Value) → Event
  Ended : (level : ℕ) → Event
  Asked : (is_refused : Bool) → Event

-- what an event does to the store
abbrev pub effect : Event → Store → Store
effect (Printed byte) store = store
effect (Changed c vs) store = put_all (paths c.reference) vs store
effect (Began stage) store = store
effect (Entered vs) store = record { statics = store.statics; levels = store.levels ++ vs ∷ [] }
effect (Ended level) store = record { statics = store.statics; levels = take level store.levels }
effect (Asked refused) store = store

-- the store after these events
abbrev pub replayed : List Event → Store → Store
replayed [] store = store
replayed (e ∷ es) store = replayed es (effect e store)

-- The store, and what the heap will answer each time that it is asked for storage, in turn: whether it refuses.
pub record World : Type 0 where
  pub store : Store
  pub answers : ℕ → Bool

-- How a part of a run ends: it gives something and the run goes on, it fails with an error at a place, it stops, or a loop
-- needs more turns than it may make.
pub data End (A : Type 0) : Type 0 where
  Gives : A → World → End A
  Fails : (error : RunError) (place : Place) → End A
  Stops : (code : Option ℕ) → End A
  Beyond : End A

-- what happened in a part of a run, and how it ended
pub record Outcome (A : Type 0) : Type 0 where
  pub out : List Event
  pub end : End A

-- a part of a run, from any world
pub record Ran (A : Type 0) : Type 0 where
  pub from : World → Outcome A

abbrev pub behind : {A : Type 0} → List Event → Outcome A → Outcome A
behind front r = record { out = front ++ r.out; end = r.end }

abbrev pub go_on : {A B : Type 0} → List Event → End A → (A → Ran B) → Outcome B
go_on out (Gives x w) f = behind out ((f x).from w)
go_on out (Fails error place) f = record { out = out; end = Fails error place }
go_on out (Stops code) f = record { out = out; end = Stops code }
go_on out Beyond f = record { out = out; end = Beyond }

abbrev pub after : {A B : Type 0} → Outcome A → (A → Ran B) → Outcome B
after r f = go_on r.out r.end f

-- goes on with what the first part gives
infixl 10 ◌>>=◌
unfoldable pub ◌>>=◌ : {A B : Type 0} → Ran A → (A → Ran B) → Ran B
m >>= f = record { from = λ w. after (m.from w) f }

-- nothing happens
unfoldable pub gives : {A : Type 0} → A → Ran A
gives x = record { from = λ w. record { out = []; end = Gives x w } }

unfoldable pub fails : {A : Type 0} → RunError → Place → Ran A
fails error place = record { from = λ w. record { out = []; end = Fails error place } }

unfoldable pub stops : {A : Type 0} → Option ℕ → Ran A
stops code = record { from = λ w. record { out = []; end = Stops code } }

unfoldable pub beyond : {A : Type 0} → Ran A
beyond = record { from = λ w. record { out = []; end = Beyond } }

-- gives what the store shows
unfoldable pub looks : {A : Type 0} → (Store → A) → Ran A
looks f = record { from = λ w. record { out = []; end = Gives (f w.store) w } }

abbrev pub happened : List Event → World → Outcome ⊤
happened events w = record { out = events; end = Gives tt (record { store = replayed events w.store; answers = w.answers }) }

-- these events happen
unfoldable pub does : (Store → List Event) → Ran ⊤
does events = record { from = λ w. happened (events w.store) w }

-- the heap is asked for storage: whether it refuses
unfoldable pub asks : Ran Bool
asks = record { from = λ w. record { out = []; end = Gives (w.answers 0) (record { store = w.store; answers = λ i. w.answers (suc i) }) } }

-- these bytes are printed
unfoldable pub prints_bytes : List ℕ → Ran ⊤
prints_bytes bytes = does (λ store. map Printed bytes)

-- something for each of a list, in order
abbrev pub each : {A : Type 0} → List A → (A → Ran ⊤) → Ran ⊤
each [] act = gives tt
each (x ∷ xs) act = act x >>= λ done. each xs act
