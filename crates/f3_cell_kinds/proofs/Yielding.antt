-- What parts of runs give.
use Rattle.std.proofs.Common.{◌≡◌, Bool, true, false, List, refl, if◌then◌else◌}
use Rattle.f3_places.specs.declared.source.Place.{Place}
use Rattle.f3_meaning_whole.specs.Store.{Store}
use Rattle.f3_meaning_whole.specs.declared.run_error.RunError.{RunError}
use Rattle.f3_meaning_whole.specs.Ran.{Event, World, End, Gives, Fails, Stops, Beyond, Ran, go_on, ◌>>=◌, gives, fails, looks}

abbrev pub IsGiven : {A : Type 0} → (A → Type 0) → End A → Type 0
IsGiven P (Gives x w) = P x
IsGiven P end = Unit {0}

-- what is given has this
pub record Yields {A : Type 0} (P : A → Type 0) (r : Ran A) : Type 0 where
  pub by : (w : World) → IsGiven P (r.from w).end

pub gives_yields : {A : Type 0} {P : A → Type 0} (x : A) → P x → Yields P (gives x)
unfolding gives
gives_yields x h = record { by = λ w. h }

pub fails_yields : {A : Type 0} {P : A → Type 0} (error : RunError) (place : Place) → Yields P (fails error place)
unfolding fails
fails_yields error place = record { by = λ w. tt }

pub looks_yields : {A : Type 0} {P : A → Type 0} (f : Store → A) → ((store : Store) → P (f store)) → Yields P (looks f)
unfolding looks
looks_yields f h = record { by = λ w. h w.store }

any_end : {A : Type 0} (end : End A) → IsGiven (λ x. Unit {0}) end
any_end (Gives x w) = tt
any_end (Fails error place) = tt
any_end (Stops code) = tt
any_end Beyond = tt

-- whatever it gives
pub any_yields : {A : Type 0} (r : Ran A) → Yields (λ x. Unit {0}) r
any_yields r = record { by = λ w. any_end (r.from w).end }

pub followed : {A B : Type 0} (Q : A → Type 0) (P : B → Type 0) (f : A → Ran B) → ((x : A) → Q x → Yields P (f x)) → (out : List Event) (end : End A) → IsGiven Q end →
    IsGiven P (go_on out end f).end
followed Q P f k out (Gives x u) h = (k x h).by u
followed Q P f k out (Fails error place) h = tt
followed Q P f k out (Stops code) h = tt
followed Q P f k out Beyond h = tt

pub bind_yields : {A B : Type 0} {Q : A → Type 0} {P : B → Type 0} {m : Ran A} {f : A → Ran B} → Yields Q m → ((x : A) → Q x → Yields P (f x)) → Yields P (m >>= f)
unfolding ◌>>=◌
bind_yields {Q = Q} {P = P} {m = m} {f = f} h k = record { by = λ w. followed Q P f k (m.from w).out (m.from w).end (h.by w) }

pub if_yields : {A : Type 0} {P : A → Type 0} (b : Bool) {x y : Ran A} → (b ≡ true → Yields P x) → (b ≡ false → Yields P y) → Yields P (if b then x else y)
if_yields true h k = h refl
if_yields false h k = k refl
