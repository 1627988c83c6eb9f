-- From one state of the machine to another.
use Rattle.std.proofs.Common.{◌≡◌, ◌≢◌, ℕ, suc, ◌≤◌, Bool, true, false, List, [], ◌++◌, Option, refl, sym, ap, ◌∙◌, subst, arith, append_assoc, if◌then◌else◌}
use Rattle.std.proofs.Math.Path.{fun_ext}
use Rattle.f3_places.specs.declared.source.Place.{Place}
use Rattle.f3_meaning_whole.specs.declared.run_error.RunError.{RunError}
use Rattle.f3_meaning_whole.specs.Store.{Store}
use Rattle.f3_meaning_whole.specs.Ran.{Event, World, End, Gives, Fails, Stops, Beyond, Outcome, Ran, behind, go_on, after, ◌>>=◌, gives, fails, stops, looks, does, asks}
use Rattle.f3_meaning_whole.specs.Act.{Setting}
use Rattle.f3_code.specs.State.{Code, State, Course, Running, Stopped, Failed, Goes, Stays}
use Rattle.f3_code.specs.Machine.{before, performs, ends_so, advance, step, run}

pub before_before : (a b : List Event) (c : Course) → before a (before b c) ≡ before (a ++ b) c
before_before a b c = let P : List Event → Course = λ l. record { out = l; halt = c.halt } in ap P (sym (append_assoc a b c.out))

-- ---- what a part of a run gives has a property

abbrev pub GivesAs : {A : Type 0} → (A → Type 0) → End A → Type 0
GivesAs P (Gives x w) = P x
GivesAs P (Fails error place) = Unit {0}
GivesAs P (Stops code) = Unit {0}
GivesAs P Beyond = Unit {0}

pub record AllGive {A : Type 0} (P : A → Type 0) (r : Ran A) : Type 0 where
  pub as_said : (w : World) → GivesAs P (r.from w).end

pub give_all : {A B : Type 0} (P : A → Type 0) (Q : B → Type 0) {m : Ran A} {f : A → Ran B} → AllGive P m → ((x : A) → P x → AllGive Q (f x)) →
    AllGive Q (m >>= f)
unfolding ◌>>=◌
give_all {A = A} P Q {m = m} {f = f} g h = record { as_said = λ w. by_end (m.from w).out (m.from w).end (g.as_said w) }
  where
    by_end : (out : List Event) (end : End A) → GivesAs P end → GivesAs Q (go_on out end f).end
    by_end out (Gives x w) p = (h x p).as_said w
    by_end out (Fails error place) p = tt
    by_end out (Stops code) p = tt
    by_end out Beyond p = tt

pub gives_as : {A : Type 0} (P : A → Type 0) (x : A) → P x → AllGive P (gives x)
unfolding gives
gives_as P x p = record { as_said = λ w. p }

pub give_any : {A : Type 0} (r : Ran A) → AllGive (λ x. Unit {0}) r
give_any {A = A} r = record { as_said = λ w. by_end (r.from w).end }
  where
    by_end : (end : End A) → GivesAs (λ x. Unit {0}) end
    by_end (Gives x w) = tt
    by_end (Fails error place) = tt
    by_end (Stops code) = tt
    by_end Beyond = tt

-- ---- parts of runs that need no turns

pub record Ends {A : Type 0} (r : Ran A) : Type 0 where
  pub by : (w : World) → (r.from w).end ≢ Beyond

pub bind_ends : {A B : Type 0} {m : Ran A} {f : A → Ran B} → Ends m → ((x : A) → Ends (f x)) → Ends (m >>= f)
unfolding ◌>>=◌
bind_ends {A = A} {m = m} {f = f} g h = record { by = λ w. by_end (m.from w).out (m.from w).end (g.by w) }
  where
    by_end : (out : List Event) (end : End A) → end ≢ Beyond → (go_on out end f).end ≢ Beyond
    by_end out (Gives x w) b = (h x).by w
    by_end out (Fails error place) b = λ e. cc
    by_end out (Stops code) b = λ e. cc
    by_end out Beyond b = λ e. b refl

pub gives_end : {A : Type 0} (x : A) → Ends (gives x)
unfolding gives
gives_end x = record { by = λ w e. cc }

pub fails_end : {A : Type 0} (error : RunError) (place : Place) → Ends {A = A} (fails error place)
unfolding fails
fails_end error place = record { by = λ w e. cc }

pub looks_end : {A : Type 0} (f : Store → A) → Ends (looks f)
unfolding looks
looks_end f = record { by = λ w e. cc }

pub does_end : (f : Store → List Event) → Ends (does f)
unfolding does
does_end f = record { by = λ w e. cc }

pub asks_end : Ends asks
unfolding asks
asks_end = record { by = λ w e. cc }

pub if_ends : {A : Type 0} (b : Bool) {x y : Ran A} → Ends x → Ends y → Ends (if b then x else y)
if_ends true g h = g
if_ends false g h = h

-- ---- parts within parts

behind_twice : {A B : Type 0} (front : List Event) (r : Outcome A) (f : A → Ran B) → after (behind front r) f ≡ behind front (after r f)
behind_twice {A = A} {B = B} front r f = by_end r.end
  where
    by_end : (end : End A) → go_on (front ++ r.out) end f ≡ behind front (go_on r.out end f)
    by_end (Gives x w) = let P : List Event → Outcome B = λ l. record { out = l; end = ((f x).from w).end } in ap P
        (append_assoc front r.out ((f x).from w).out)
    by_end (Fails error place) = refl
    by_end (Stops code) = refl
    by_end Beyond = refl

after_assoc : {A B C : Type 0} (r : Outcome A) (f : A → Ran B) (g : B → Ran C) → after (after r f) g ≡ go_on r.out r.end (λ x. f x >>= g)
unfolding ◌>>=◌
after_assoc {A = A} {B = B} {C = C} r f g = by_end r.end
  where
    by_end : (end : End A) → after (go_on r.out end f) g ≡ go_on r.out end (λ x. f x >>= g)
    by_end (Gives x w) = behind_twice r.out ((f x).from w) g
    by_end (Fails error place) = refl
    by_end (Stops code) = refl
    by_end Beyond = refl

pub bind_assoc : {A B C : Type 0} (m : Ran A) (f : A → Ran B) (g : B → Ran C) → ((m >>= f) >>= g) ≡ (m >>= λ x. f x >>= g)
unfolding ◌>>=◌
bind_assoc {A = A} {B = B} {C = C} m f g =
    let P : (World → Outcome C) → Ran C = λ h. record { from = h } in ap P (fun_ext (λ w. after_assoc (m.from w) f g))

pub then_same : {A B : Type 0} (m : Ran A) {f f' : A → Ran B} → ((x : A) → f x ≡ f' x) → (m >>= f) ≡ (m >>= f')
then_same m h = ap (λ f. m >>= f) (fun_ext h)

pub nothing_then : {A B : Type 0} (x : A) (f : A → Ran B) → (gives x >>= f) ≡ f x
unfolding ◌>>=◌ gives
nothing_then x f = refl

pub fails_then : {A B : Type 0} (error : RunError) (place : Place) (f : A → Ran B) → (fails error place >>= f) ≡ fails error place
unfolding ◌>>=◌ fails
fails_then error place f = refl

-- ---- from state to state

module _ (limit : ℕ) (g : Setting) (code : Code) where
  -- the machine comes from one state to another, and this happens
  pub record Comes (s : State) (out : List Event) (t : State) : Type 0 where
    pub by : (k : ℕ) → (j : ℕ) × (k ≤ j) × (run limit g code j s ≡ before out (run limit g code k t))

  abbrev pub ReachesAs : {A : Type 0} → ℕ → State → List Event → End A → (A → World → State) → Type 0
  ReachesAs n s out (Gives x w) next = Comes s out (next x w)
  ReachesAs n s out (Fails error place) next = (j : ℕ) × (run limit g code j s ≡ record { out = out; halt = Failed error place })
  ReachesAs n s out (Stops number) next = (j : ℕ) × (run limit g code j s ≡ record { out = out; halt = Stopped number })
  ReachesAs n s out Beyond next = (j : ℕ) × (n ≤ j) × (run limit g code j s ≡ record { out = out; halt = Running })

  -- From a state the machine does what this part of a run does from a world, and stands at the next state then.
  pub record Reaches {A : Type 0} (n : ℕ) (s : State) (r : Ran A) (w : World) (next : A → World → State) : Type 0 where
    pub as_said : ReachesAs n s (r.from w).out (r.from w).end next

  -- one instruction first, at which nothing happens
  pub step_first : {A : Type 0} {n : ℕ} {s t : State} {r : Ran A} {w : World} {next : A → World → State} → step limit g code s ≡ Goes [] t →
      Reaches n t r w next → Reaches (suc n) s r w next
  step_first {A = A} {n = n} {s = s} {t = t} {r = r} {w = w} {next = next} e h = record { as_said = by_end (r.from w).out (r.from w).end h.as_said }
    where
      one : (k : ℕ) → run limit g code (suc k) s ≡ before [] (run limit g code k t)
      one k = ap (λ x. advance limit g code x (run limit g code k)) e

      by_end : (out : List Event) (end : End A) → ReachesAs n t out end next → ReachesAs (suc n) s out end next
      by_end out (Gives x w) c = record {
        by = λ k. let a = c.by k
            in (suc a.0, omega (arith, a.1), one a.0 ∙ ap (before []) a.2 ∙ before_before [] out (run limit g code k (next x w)));
      }
      by_end out (Fails error place) c = (suc c.0, one c.0 ∙ ap (before []) c.1)
      by_end out (Stops number) c = (suc c.0, one c.0 ∙ ap (before []) c.1)
      by_end out Beyond c = (suc c.0, omega (arith, c.1), one c.0 ∙ ap (before []) c.2)

  -- with fewer turns asked for
  pub fewer : {A : Type 0} {s : State} {r : Ran A} {w : World} {next : A → World → State} (n m : ℕ) → n ≤ m → Reaches m s r w next → Reaches n s r w next
  fewer {A = A} {s = s} {r = r} {w = w} {next = next} n m le h = record { as_said = by_end (r.from w).out (r.from w).end h.as_said }
    where
      by_end : (out : List Event) (end : End A) → ReachesAs m s out end next → ReachesAs n s out end next
      by_end out (Gives x w) c = c
      by_end out (Fails error place) c = c
      by_end out (Stops number) c = c
      by_end out Beyond c = (c.0, omega (arith, c.1), c.2)

  -- one instruction first, which costs no turn
  pub step_then : {A : Type 0} {n : ℕ} {s t : State} {r : Ran A} {w : World} {next : A → World → State} → step limit g code s ≡ Goes [] t →
      Reaches n t r w next → Reaches n s r w next
  step_then {n = n} e h = fewer n (suc n) (omega arith) (step_first e h)

  -- nothing to do
  pub stays : {A : Type 0} (n : ℕ) (x : A) (w : World) (next : A → World → State) → Reaches n (next x w) (gives x) w next
  unfolding gives
  stays n x w next = record { as_said = record { by = λ k. (k, omega arith, refl) } }

  pub arrives : {A : Type 0} (n : ℕ) {s : State} (x : A) (w : World) (next : A → World → State) → s ≡ next x w → Reaches n s (gives x) w next
  arrives n x w next e = subst (λ s. Reaches n s (gives x) w next) (sym e) (stays n x w next)

  -- one instruction, at which nothing happens
  pub one_step : {A : Type 0} (n : ℕ) {s : State} (x : A) (w : World) (next : A → World → State) → step limit g code s ≡ Goes [] (next x w) →
      Reaches n s (gives x) w next
  one_step n x w next e = step_then e (stays n x w next)

  -- one instruction that does what a part of a run does, which needs no turns
  pub does_it : {A : Type 0} (n : ℕ) {s : State} (r : Ran A) (w : World) (next : A → World → State) → Ends r → step limit g code s ≡ performs r w next →
      Reaches n s r w next
  does_it {A = A} n {s = s} r w next h e = record { as_said = by_end (r.from w).out (r.from w).end (h.by w) e }
    where
      by_end : (out : List Event) (end : End A) → end ≢ Beyond → step limit g code s ≡ ends_so out end next → ReachesAs n s out end next
      by_end out (Gives x w) h e = record { by = λ k. (suc k, omega arith, ap (λ x. advance limit g code x (run limit g code k)) e) }
      by_end out (Fails error place) h e = (1, ap (λ x. advance limit g code x (run limit g code 0)) e)
      by_end out (Stops number) h e = (1, ap (λ x. advance limit g code x (run limit g code 0)) e)
      by_end out Beyond h e = absurd (h refl)

  -- an error
  pub fails_at : {A : Type 0} (n : ℕ) {s : State} (error : RunError) (place : Place) (w : World) (next : A → World → State) →
      step limit g code s ≡ Stays [] (Failed error place) → Reaches n s (fails error place) w next
  unfolding fails
  fails_at n error place w next e = record { as_said = (1, ap (λ x. advance limit g code x (run limit g code 0)) e) }

  pub stops_at : {A : Type 0} (n : ℕ) {s : State} (number : Option ℕ) (w : World) (next : A → World → State) →
      step limit g code s ≡ Stays [] (Stopped number) → Reaches n s (stops number) w next
  unfolding stops
  stops_at n number w next e = record { as_said = (1, ap (λ x. advance limit g code x (run limit g code 0)) e) }

  -- one part behind another
  pub then_where : {A B : Type 0} {n : ℕ} {s : State} {m : Ran A} {f : A → Ran B} {w : World} {mid : A → World → State} {next : B → World → State}
      (P : A → Type 0) → AllGive P m → Reaches n s m w mid → ((x : A) (w : World) → P x → Reaches n (mid x w) (f x) w next) → Reaches n s (m >>= f) w next
  unfolding ◌>>=◌
  then_where {A = A} {B = B} {n = n} {s = s} {m = m} {f = f} {w = w} {mid = mid} {next = next} P all h k =
      record { as_said = by_end (m.from w).out (m.from w).end (all.as_said w) h.as_said }
    where
      behind_it : {t : State} (out : List Event) (r : Outcome B) → Comes s out t → ReachesAs n t r.out r.end next → ReachesAs n s (out ++ r.out) r.end next
      behind_it {t = t} out r c h = by_rest r.out r.end h
        where
          by_rest : (more : List Event) (end : End B) → ReachesAs n t more end next → ReachesAs n s (out ++ more) end next
          by_rest more (Gives x w) h = record {
            by = λ k. let b = h.by k in let a =
                c.by b.0 in (a.0, omega (arith, a.1, b.1), a.2 ∙ ap (before out) b.2 ∙ before_before out more (run limit g code k (next x w)));
          }
          by_rest more (Fails error place) h = let a = c.by h.0 in (a.0, a.2 ∙ ap (before out) h.1)
          by_rest more (Stops number) h = let a = c.by h.0 in (a.0, a.2 ∙ ap (before out) h.1)
          by_rest more Beyond h = let a = c.by h.0 in (a.0, omega (arith, a.1, h.1), a.2 ∙ ap (before out) h.2)

      by_end : (out : List Event) (end : End A) → GivesAs P end → ReachesAs n s out end mid → ReachesAs n s (go_on out end f).out (go_on out end f).end next
      by_end out (Gives x w) p c = behind_it out ((f x).from w) c (k x w p).as_said
      by_end out (Fails error place) p c = c
      by_end out (Stops number) p c = c
      by_end out Beyond p c = c

  pub then_on : {A B : Type 0} {n : ℕ} {s : State} {m : Ran A} {f : A → Ran B} {w : World} {mid : A → World → State} {next : B → World → State} →
      Reaches n s m w mid → ((x : A) (w : World) → Reaches n (mid x w) (f x) w next) → Reaches n s (m >>= f) w next
  then_on {m = m} h k = then_where (λ x. Unit {0}) (give_any m) h (λ x w p. k x w)

  -- what is done at the end, with what was given
  pub ends_with : {A : Type 0} {n : ℕ} {s : State} {r : Ran A} {w : World} {mid next : A → World → State} → Reaches n s r w mid →
      ((x : A) (w : World) → Comes (mid x w) [] (next x w)) → Reaches n s r w next
  ends_with {A = A} {n = n} {s = s} {r = r} {w = w} {mid = mid} {next = next} h f = record { as_said = by_end (r.from w).out (r.from w).end h.as_said }
    where
      by_end : (out : List Event) (end : End A) → ReachesAs n s out end mid → ReachesAs n s out end next
      by_end out (Gives x w) c = record { by = λ k. let b = (f x w).by k in let a = c.by b.0 in (a.0, omega (arith, a.1, b.1), a.2 ∙ ap (before out) b.2) }
      by_end out (Fails error place) c = c
      by_end out (Stops number) c = c
      by_end out Beyond c = c

  pub comes_here : {s t : State} → s ≡ t → Comes s [] t
  comes_here e = record { by = λ k. (k, omega arith, ap (run limit g code k) e) }

  pub comes_by : {s t : State} → step limit g code s ≡ Goes [] t → Comes s [] t
  comes_by e = record { by = λ k. (suc k, omega arith, ap (λ x. advance limit g code x (run limit g code k)) e) }

  pub comes_on : {s t u : State} → Comes s [] t → Comes t [] u → Comes s [] u
  comes_on a b = record { by = λ k. let y = b.by k in let x = a.by y.0 in (x.0, omega (arith, x.1, y.1), x.2 ∙ ap (before []) y.2) }

  -- coming somewhere first
  pub comes_then : {A : Type 0} {n : ℕ} {s t : State} {r : Ran A} {w : World} {next : A → World → State} → Comes s [] t → Reaches n t r w next →
      Reaches n s r w next
  comes_then {A = A} {n = n} {s = s} {t = t} {r = r} {w = w} {next = next} c h = record { as_said = by_end (r.from w).out (r.from w).end h.as_said }
    where
      by_end : (out : List Event) (end : End A) → ReachesAs n t out end next → ReachesAs n s out end next
      by_end out (Gives x w) h = record { by = λ k. let b = h.by k in let a = c.by b.0 in (a.0, omega (arith, a.1, b.1), a.2 ∙ ap (before []) b.2) }
      by_end out (Fails error place) h = let a = c.by h.0 in (a.0, a.2 ∙ ap (before []) h.1)
      by_end out (Stops number) h = let a = c.by h.0 in (a.0, a.2 ∙ ap (before []) h.1)
      by_end out Beyond h = let a = c.by h.0 in (a.0, omega (arith, a.1, h.1), a.2 ∙ ap (before []) h.2)

  -- the same part of a run
  pub as_well : {A : Type 0} {n : ℕ} {s : State} {r r' : Ran A} {w : World} {next : A → World → State} → r ≡ r' → Reaches n s r w next → Reaches n s r' w next
  as_well {n = n} {s = s} {w = w} {next = next} e h = subst (λ r. Reaches n s r w next) e h

  -- a part within another
  pub joined : {A B C : Type 0} {n : ℕ} {s : State} {w : World} (m : Ran A) (f : A → Ran B) (k : B → Ran C) {next : C → World → State} →
      Reaches n s (m >>= λ x. f x >>= k) w next → Reaches n s ((m >>= f) >>= k) w next
  joined m f k h = as_well (sym (bind_assoc m f k)) h

  -- what the store shows, and then something
  pub looked : {A B : Type 0} {n : ℕ} {s : State} {w : World} {next : B → World → State} (f : Store → A) (k : A → Ran B) →
      Reaches n s (k (f w.store)) w next → Reaches n s (looks f >>= k) w next
  unfolding ◌>>=◌ looks
  looked f k h = record { as_said = h.as_said }
