-- What holds behind parts of runs: of what they give, and of the store then.
use Rattle.std.proofs.Common.{◌≡◌, sym, Bool, true, false, List, refl, subst, if◌then◌else◌}
use Rattle.f3_places.specs.declared.source.Place.{Place}
use Rattle.f3_meaning_whole.specs.Store.{Store}
use Rattle.f3_meaning_whole.specs.declared.run_error.RunError.{RunError}
use Rattle.f3_meaning_whole.specs.Ran.{Event, World, End, Gives, Fails, Stops, Beyond, Ran, go_on, ◌>>=◌, gives, fails, does, replayed}
use Rattle.f3_cell_kinds.proofs.Yielding.{IsGiven, Yields}
use Rattle.f3_cell_kinds.proofs.Calm.{IsCalm, Calm}

abbrev pub IsAfter : {A : Type 0} → (A → Store → Type 0) → End A → Type 0
IsAfter P (Gives x w) = P x w.store
IsAfter P end = Unit {0}

-- from such a store
pub record After {A : Type 0} (P : A → Store → Type 0) (store : Store) (r : Ran A) : Type 0 where
  pub by : (w : World) → w.store ≡ store → IsAfter P (r.from w).end

pub gives_after : {A : Type 0} {P : A → Store → Type 0} {store : Store} (x : A) → P x store → After P store (gives x)
unfolding gives
gives_after {P = P} x h = record { by = λ w e. subst (λ st. P x st) (sym e) h }

pub fails_after : {A : Type 0} {P : A → Store → Type 0} {store : Store} (error : RunError) (place : Place) → After P store (fails error place)
unfolding fails
fails_after error place = record { by = λ w e. tt }

pub does_after : {P : Unit {0} → Store → Type 0} {store : Store} (events : Store → List Event) → P tt (replayed (events store) store) → After P store (does events)
unfolding does
does_after {P = P} events h = record { by = λ w e. subst (λ st. P tt (replayed (events st) st)) (sym e) h }

followed : {A B : Type 0} (Q : A → Store → Type 0) (P : B → Store → Type 0) (f : A → Ran B) → ((x : A) (st : Store) → Q x st → After P st (f x)) → (out : List Event) (end : End A) →
    IsAfter Q end → IsAfter P (go_on out end f).end
followed Q P f k out (Gives x u) h = (k x u.store h).by u refl
followed Q P f k out (Fails error place) h = tt
followed Q P f k out (Stops code) h = tt
followed Q P f k out Beyond h = tt

pub bind_after : {A B : Type 0} (Q : A → Store → Type 0) {P : B → Store → Type 0} {store : Store} {m : Ran A} {f : A → Ran B} → After Q store m →
    ((x : A) (st : Store) → Q x st → After P st (f x)) → After P store (m >>= f)
unfolding ◌>>=◌
bind_after Q {P = P} {m = m} {f = f} h k = record { by = λ w e. followed Q P f k (m.from w).out (m.from w).end (h.by w e) }

calm_end : {A : Type 0} (P : A → Type 0) (store : Store) (end : End A) → IsCalm P store end → IsAfter (λ x st. P x × (st ≡ store)) end
calm_end P store (Gives x w) h = h
calm_end P store (Fails error place) h = tt
calm_end P store (Stops code) h = tt
calm_end P store Beyond h = tt

-- what leaves the store as it was
pub calm_after : {A : Type 0} {P : A → Type 0} {store : Store} {r : Ran A} → Calm P store r → After (λ x st. P x × (st ≡ store)) store r
calm_after {P = P} {store = store} {r = r} h = record { by = λ w e. calm_end P store (r.from w).end (h.by w e) }

pub calm_then : {A B : Type 0} {Q : A → Type 0} {P : B → Store → Type 0} {store : Store} {m : Ran A} {f : A → Ran B} → Calm Q store m →
    ((x : A) → Q x → After P store (f x)) → After P store (m >>= f)
calm_then {Q = Q} {P = P} {store = store} {m = m} {f = f} h k =
    bind_after (λ x st. Q x × (st ≡ store)) (calm_after h) (λ x st q. subst (λ z. After P z (f x)) (sym q.1) (k x q.0))

pub if_after : {A : Type 0} {P : A → Store → Type 0} {store : Store} (b : Bool) {x y : Ran A} → (b ≡ true → After P store x) → (b ≡ false → After P store y) →
    After P store (if b then x else y)
if_after true h k = h refl
if_after false h k = k refl

-- ---- with what is given

both_end : {A : Type 0} (P Q : A → Type 0) (store : Store) (end : End A) → IsCalm P store end → IsGiven Q end → IsCalm (λ x. P x × Q x) store end
both_end P Q store (Gives x w) h k = ((h.0, k), h.1)
both_end P Q store (Fails error place) h k = tt
both_end P Q store (Stops code) h k = tt
both_end P Q store Beyond h k = tt

pub both : {A : Type 0} {P Q : A → Type 0} {store : Store} {r : Ran A} → Calm P store r → Yields Q r → Calm (λ x. P x × Q x) store r
both {P = P} {Q = Q} {store = store} {r = r} h k = record { by = λ w e. both_end P Q store (r.from w).end (h.by w e) (k.by w) }

so_end : {A : Type 0} (P Q : A → Type 0) (store : Store) (end : End A) → ((x : A) → P x → Q x) → IsCalm P store end → IsCalm Q store end
so_end P Q store (Gives x w) f h = (f x h.0, h.1)
so_end P Q store (Fails error place) f h = tt
so_end P Q store (Stops code) f h = tt
so_end P Q store Beyond f h = tt

pub calm_so : {A : Type 0} {P Q : A → Type 0} {store : Store} {r : Ran A} → ((x : A) → P x → Q x) → Calm P store r → Calm Q store r
calm_so {P = P} {Q = Q} {store = store} {r = r} f h = record { by = λ w e. so_end P Q store (r.from w).end f (h.by w e) }
