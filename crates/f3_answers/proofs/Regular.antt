-- Parts of runs that any answers of a heap can follow: what was asked in one has the same answers in another, and what is left
-- of the answers may be any.
use Rattle.std.proofs.Common.{◌≡◌, ℕ, zero, suc, Bool, true, false, List, [], ◌∷◌, ◌++◌, refl, sym, ap, ◌∙◌, if◌then◌else◌}
use Rattle.std.proofs.Math.Path.{fun_ext}
use Rattle.std.specs.Prelude.{⊤}
use Rattle.f3_places.specs.declared.source.Place.{Place}
use Rattle.f3_meaning_whole.specs.Store.{Store}
use Rattle.f3_meaning_whole.specs.Reference.{Reach, One, Many}
use Rattle.f3_meaning_whole.specs.declared.run_error.RunError.{RunError}
use Rattle.f3_meaning_whole.specs.Ran.{Event, World, End, Gives, Fails, Stops, Beyond, Outcome, Ran, behind, go_on, after, ◌>>=◌, gives, fails, looks, does, asks, prints_bytes, each}
use Rattle.f3_meaning_whole.specs.Eval.{by_reach}
use Rattle.f3_code.specs.Heap.{granted}

-- these answers instead
abbrev pub world_with : (ℕ → Bool) → World → World
world_with a w = record { store = w.store; answers = a }

abbrev pub end_with : {A : Type 0} → (ℕ → Bool) → End A → End A
end_with a (Gives x w) = Gives x (world_with a w)
end_with a (Fails error place) = Fails error place
end_with a (Stops code) = Stops code
end_with a Beyond = Beyond

abbrev pub outcome_with : {A : Type 0} → (ℕ → Bool) → Outcome A → Outcome A
outcome_with a r = record { out = r.out; end = end_with a r.end }

-- these answers, then others
abbrev pub first : Bool → (ℕ → Bool) → ℕ → Bool
first x a zero = x
first x a (suc i) = a i

abbrev pub ahead : List Bool → (ℕ → Bool) → ℕ → Bool
ahead [] a = a
ahead (x ∷ xs) a = first x (ahead xs a)

abbrev pub AllGranted : List Bool → Type 0
AllGranted [] = ⊤
AllGranted (x ∷ xs) = (x ≡ false) × AllGranted xs

-- A part asks from a world for so many answers: with these, whatever comes behind them, it does the same, and leaves what comes behind.
-- They are granted where the world grants all.
pub record Asks {A : Type 0} (r : Ran A) (w : World) (given : List Bool) : Type 0 where
  pub same : (a : ℕ → Bool) → r.from (world_with (ahead given a) w) ≡ outcome_with a (r.from w)
  pub granted : w.answers ≡ granted → AllGranted given

pub record Regular {A : Type 0} (r : Ran A) : Type 0 where
  pub follow : (w : World) → (given : List Bool) × Asks r w given

-- ---- answers one behind the other

pub ahead_both : (xs ys : List Bool) (a : ℕ → Bool) → ahead (xs ++ ys) a ≡ ahead xs (ahead ys a)
ahead_both [] ys a = refl
ahead_both (x ∷ xs) ys a = ap (first x) (ahead_both xs ys a)

pub granted_both : (xs ys : List Bool) → AllGranted xs → AllGranted ys → AllGranted (xs ++ ys)
granted_both [] ys h k = k
granted_both (x ∷ xs) ys h k = (h.0, granted_both xs ys h.1 k)

first_granted : (i : ℕ) → first false granted i ≡ granted i
first_granted zero = refl
first_granted (suc i) = refl

pub ahead_granted : (xs : List Bool) → AllGranted xs → ahead xs granted ≡ granted
ahead_granted [] h = refl
ahead_granted (x ∷ xs) h =
    ap (first x) (ahead_granted xs h.1) ∙ ap (λ y. first y granted) h.0 ∙ fun_ext first_granted

-- ---- parts

-- nothing is asked
quiet : {A : Type 0} {r : Ran A} → ((w : World) (a : ℕ → Bool) → r.from (world_with a w) ≡ outcome_with a (r.from w)) → Regular r
quiet h = record { follow = λ w. ([], record { same = h w; granted = λ e. tt }) }

pub gives_regular : {A : Type 0} (x : A) → Regular (gives x)
unfolding gives
gives_regular x = quiet (λ w a. refl)

pub fails_regular : {A : Type 0} (error : RunError) (place : Place) → Regular (fails {A = A} error place)
unfolding fails
fails_regular error place = quiet (λ w a. refl)

pub looks_regular : {A : Type 0} (f : Store → A) → Regular (looks f)
unfolding looks
looks_regular f = quiet (λ w a. refl)

pub does_regular : (events : Store → List Event) → Regular (does events)
unfolding does
does_regular events = quiet (λ w a. refl)

pub asks_regular : Regular asks
unfolding asks
asks_regular = record { follow = λ w. (w.answers 0 ∷ [], record { same = λ a. refl; granted = λ e. (ap (λ f. f 0) e, tt) }) }

pub prints_regular : (bytes : List ℕ) → Regular (prints_bytes bytes)
unfolding prints_bytes
prints_regular bytes = does_regular _

-- the answers that an end leaves
abbrev left_by : {A : Type 0} → End A → ℕ → Bool
left_by (Gives x w) = w.answers
left_by e = granted

-- what grants all is left so
left_granted : {A : Type 0} (r : Ran A) (w : World) (given : List Bool) → Asks r w given → w.answers ≡ granted
    → (r.from w).end ≡ end_with granted (r.from w).end
left_granted r w given h e =
    let all : ahead given granted ≡ w.answers = ahead_granted given (h.granted e) ∙ sym e in
    sym (ap (λ a. (r.from (world_with a w)).end) all) ∙ ap (λ o. o.end) (h.same granted)

followed : {A B : Type 0} (m : Ran A) (f : A → Ran B) → ((x : A) → Regular (f x)) → (w : World) (front : List Bool) → Asks m w front
    → (out : List Event) (end : End A) → m.from w ≡ record { out = out; end = end }
    → (given : List Bool) × ((a : ℕ → Bool) → after (m.from (world_with (ahead given a) w)) f ≡ outcome_with a (go_on out end f)) × (w.answers ≡ granted → AllGranted given)
followed m f k w front h out (Gives x u) is =
    let rest = (k x).follow u in
    let left = λ (e : w.answers ≡ granted). sym (ap (λ o. left_by o.end) is) ∙ ap left_by (left_granted m w front h e) ∙ ap (λ o. left_by (end_with granted o.end)) is in (
      front ++ rest.0,
      λ a. ap (λ b. after (m.from (world_with b w)) f) (ahead_both front rest.0 a) ∙ ap (λ r. after r f) (h.same (ahead rest.0 a) ∙ ap (outcome_with (ahead rest.0 a)) is)
          ∙ ap (behind out) (rest.1.same a),
      λ e. granted_both front rest.0 (h.granted e) (rest.1.granted (left e)),
    )
followed m f k w front h out (Fails error place) is = (front, λ a. ap (λ r. after r f) (h.same a ∙ ap (outcome_with a) is), h.granted)
followed m f k w front h out (Stops code) is = (front, λ a. ap (λ r. after r f) (h.same a ∙ ap (outcome_with a) is), h.granted)
followed m f k w front h out Beyond is = (front, λ a. ap (λ r. after r f) (h.same a ∙ ap (outcome_with a) is), h.granted)

pub bind_regular : {A B : Type 0} {m : Ran A} {f : A → Ran B} → Regular m → ((x : A) → Regular (f x)) → Regular (m >>= f)
unfolding ◌>>=◌
bind_regular {A = A} {B = B} {m = m} {f = f} h k = record {
  follow = λ w.
      let front = h.follow w in
      let all = followed m f k w front.0 front.1 (m.from w).out (m.from w).end refl in
      (all.0, record { same = all.1; granted = all.2 });
}

pub if_regular : {A : Type 0} (b : Bool) {x y : Ran A} → Regular x → Regular y → Regular (if b then x else y)
if_regular true h k = h
if_regular false h k = k

pub reach_regular : {A : Type 0} (reach : Reach) {x y : Ran A} → Regular x → Regular y → Regular (by_reach reach x y)
reach_regular One h k = h
reach_regular (Many ss ps) h k = k

pub each_regular : {A : Type 0} (xs : List A) {act : A → Ran ⊤} → ((x : A) → Regular (act x)) → Regular (each xs act)
each_regular [] h = gives_regular tt
each_regular (x ∷ xs) h = bind_regular (h x) (λ done. each_regular xs h)
