-- Parts of runs that are the same.
use Rattle.std.proofs.Common.{◌≡◌, ℕ, Bool, true, false, List, ◌++◌, Option, refl, ap, ◌∙◌, append_assoc, if◌then◌else◌}
use Rattle.std.specs.Prelude.{⊤}
use Rattle.std.proofs.Math.Path.{fun_ext}
use Rattle.f3_meaning_whole.specs.declared.run_error.RunError.{RunError}
use Rattle.f3_meaning_whole.specs.Reference.{Reach, One, Many}
use Rattle.f3_meaning_whole.specs.Ran.{Event, World, End, Gives, Fails, Stops, Beyond, Outcome, Ran, behind, go_on, after, ◌>>=◌, gives, each}
use Rattle.f3_meaning_whole.specs.Eval.{by_reach}
use Rattle.f3_meaning_whole.specs.Exec.{Flow, onward, turns, counted, unless_failed}

pub bind_same : {A B : Type 0} {m m' : Ran A} {f f' : A → Ran B} → m ≡ m' → ((x : A) → f x ≡ f' x) → (m >>= f) ≡ (m' >>= f')
bind_same {A = A} {B = B} {m = m} {m' = m'} {f = f} {f' = f'} e h = ap (λ m. m >>= f) e ∙ ap (λ f. m' >>= f) (fun_ext h)

pub then_same : {A B : Type 0} (m : Ran A) {f f' : A → Ran B} → ((x : A) → f x ≡ f' x) → (m >>= f) ≡ (m >>= f')
then_same m h = ap (λ f. m >>= f) (fun_ext h)

behind_twice : {A B : Type 0} (front : List Event) (r : Outcome A) (f : A → Ran B) → after (behind front r) f ≡ behind front (after r f)
behind_twice {A = A} {B = B} front r f = by_end r.end
  where
    by_end : (end : End A) → go_on (front ++ r.out) end f ≡ behind front (go_on r.out end f)
    by_end (Gives x w) = let P : List Event →
        Outcome B = λ l. record { out = l; end = ((f x).from w).end } in ap P (append_assoc front r.out ((f x).from w).out)
    by_end (Fails error place) = refl
    by_end (Stops code) = refl
    by_end Beyond = refl

after_assoc : {A B C : Type 0} (r : Outcome A) (f : A → Ran B) (g : B → Ran C) → after (after r f) g ≡ go_on r.out r.end (λ x. f x >>= g)
unfolding ◌>>=◌
after_assoc {A = A} {B = B} {C = C} r f g = by_end r.end
  where
    by_end : (end : End A) → after (go_on r.out end f) g ≡ go_on r.out end (λ x. f x >>= g)
    by_end (Gives x w) = behind_twice r.out ((f x).from w) g
    by_end (Fails error place) = refl
    by_end (Stops code) = refl
    by_end Beyond = refl

pub bind_assoc : {A B C : Type 0} (m : Ran A) (f : A → Ran B) (g : B → Ran C) → ((m >>= f) >>= g) ≡ (m >>= λ x. f x >>= g)
unfolding ◌>>=◌
bind_assoc {A = A} {B = B} {C = C} m f g =
    let P : (World → Outcome C) → Ran C = λ h. record { from = h } in ap P (fun_ext (λ w. after_assoc (m.from w) f g))

-- nothing, and then the rest
pub nothing_then : {A B : Type 0} (x : A) (f : A → Ran B) → (gives x >>= f) ≡ f x
unfolding ◌>>=◌ gives
nothing_then x f = refl

pub if_same : {A : Type 0} (b : Bool) {x x' y y' : A} → x ≡ x' → y ≡ y' → (if b then x else y) ≡ (if b then x' else y')
if_same true e h = e
if_same false e h = h

pub reach_same : {A : Type 0} (reach : Reach) {x x' y y' : A} → x ≡ x' → y ≡ y' → by_reach reach x y ≡ by_reach reach x' y'
reach_same One e h = e
reach_same (Many ss ps) e h = h

pub each_same : {A : Type 0} (xs : List A) {act act' : A → Ran ⊤} → ((x : A) → act x ≡ act' x) → each xs act ≡ each xs act'
each_same xs {act = act} {act' = act'} h = ap (λ f. each xs f) (fun_ext h)

pub onward_same : (flow : Flow) {x x' : Ran Flow} → x ≡ x' → onward flow x ≡ onward flow x'
onward_same flow e = ap (λ r. onward flow r) e

pub failed_same : (status : Option RunError) {x x' : Ran (Option RunError)} → x ≡ x' → unless_failed status x ≡ unless_failed status x'
failed_same status e = ap (λ r. unless_failed status r) e

pub turns_same : (n : ℕ) {test test' : Ran Bool} {body body' : Ran Flow} → test ≡ test' → body ≡ body' → turns n test body ≡ turns n test' body'
turns_same n {test = test} {test' = test'} {body = body} {body' = body'} e h = ap (λ (t : Ran Bool). turns n t body) e
    ∙ ap (λ (b : Ran Flow). turns n test' b) h

pub counted_same : (n k : ℕ) {body body' : Ran Flow} {next next' : Ran ⊤} → body ≡ body' → next ≡ next' → counted n k body next ≡ counted n k body' next'
counted_same n k {body = body} {body' = body'} {next = next} {next' = next'} e h = ap (λ (b : Ran Flow). counted n k b next) e
    ∙ ap (λ (x : Ran ⊤). counted n k body' x) h
