-- Parts of runs that leave the store as it is, and what they give.
use Rattle.std.proofs.Common.{◌≡◌, refl, Bool, true, false, List, subst, if◌then◌else◌}
use Rattle.f3_places.specs.declared.source.Place.{Place}
use Rattle.f3_meaning_whole.specs.Value.{Value}
use Rattle.f3_meaning_whole.specs.Store.{Store}
use Rattle.f3_meaning_whole.specs.declared.run_error.RunError.{RunError}
use Rattle.f3_meaning_whole.specs.Ran.{Event, World, End, Gives, Fails, Stops, Beyond, Ran, go_on, ◌>>=◌, gives, fails, looks, asks}
use Rattle.f3_meaning_whole.specs.Act.{Here, claim_for, needs_storage}

abbrev pub IsCalm : {A : Type 0} → (A → Type 0) → Store → End A → Type 0
IsCalm P store (Gives x w) = P x × (w.store ≡ store)
IsCalm P store end = Unit {0}

-- from such a store this is given, and the store is the same
pub record Calm {A : Type 0} (P : A → Type 0) (store : Store) (r : Ran A) : Type 0 where
  pub by : (w : World) → w.store ≡ store → IsCalm P store (r.from w).end

pub gives_calm : {A : Type 0} {P : A → Type 0} {store : Store} (x : A) → P x → Calm P store (gives x)
unfolding gives
gives_calm x h = record { by = λ w e. (h, e) }

pub fails_calm : {A : Type 0} {P : A → Type 0} {store : Store} (error : RunError) (place : Place) → Calm P store (fails error place)
unfolding fails
fails_calm error place = record { by = λ w e. tt }

pub looks_calm : {A : Type 0} {P : A → Type 0} {store : Store} (f : Store → A) → P (f store) → Calm P store (looks f)
unfolding looks
looks_calm {P = P} f h = record { by = λ w e. (subst (λ y. P (f y)) (back e) h, e) }
  where
    back : {x y : Store} → x ≡ y → y ≡ x
    back e = cc

asks_calm : {store : Store} → Calm (λ b. Unit {0}) store asks
unfolding asks
asks_calm = record { by = λ w e. (tt, e) }

followed : {A B : Type 0} (Q : A → Type 0) (P : B → Type 0) (store : Store) (f : A → Ran B) → ((x : A) → Q x → Calm P store (f x)) → (out : List Event) (end : End A) → IsCalm Q store end →
    IsCalm P store (go_on out end f).end
followed Q P store f k out (Gives x u) h = (k x h.0).by u h.1
followed Q P store f k out (Fails error place) h = tt
followed Q P store f k out (Stops code) h = tt
followed Q P store f k out Beyond h = tt

pub bind_calm : {A B : Type 0} {Q : A → Type 0} {P : B → Type 0} {store : Store} {m : Ran A} {f : A → Ran B} → Calm Q store m → ((x : A) → Q x → Calm P store (f x)) → Calm P store (m >>= f)
unfolding ◌>>=◌
bind_calm {Q = Q} {P = P} {store = store} {m = m} {f = f} h k = record { by = λ w e. followed Q P store f k (m.from w).out (m.from w).end (h.by w e) }

pub if_calm : {A : Type 0} {P : A → Type 0} {store : Store} (b : Bool) {x y : Ran A} → (b ≡ true → Calm P store x) → (b ≡ false → Calm P store y) → Calm P store (if b then x else y)
if_calm true h k = h refl
if_calm false h k = k refl

pub claim_for_calm : {store : Store} (v : Value) (here : Here) → Calm (λ x. Unit {0}) store (claim_for v here)
claim_for_calm v here = if_calm (needs_storage v)
    (λ e. bind_calm asks_calm (λ b t. if_calm b (λ f. fails_calm _ here.place) (λ f. gives_calm tt tt))) (λ e. gives_calm tt tt)
