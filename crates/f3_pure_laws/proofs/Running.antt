-- Parts of runs that change free roots alone, and leave as many levels as there are said to be.
use Rattle.std.proofs.Common.{◌≡◌, ℕ, zero, suc, ◌≤◌, Bool, true, false, List, [], ◌∷◌, ◌++◌, refl, sym, ap, ◌∙◌, if◌then◌else◌, length, take, arith}
use Rattle.std.specs.Prelude.{⊤, slice_set}
use mathlib.Core.Path.{subst}
use Rattle.f3_places.specs.declared.source.Place.{Place}
use Rattle.f3_meaning_whole.specs.Value.{Value}
use Rattle.f3_meaning_whole.specs.Store.{Root, Static, Local, Store, Path, with_root, put, put_all}
use Rattle.f3_meaning_whole.specs.Reference.{Reference, paths}
use Rattle.f3_meaning_whole.specs.declared.run_error.RunError.{RunError}
use Rattle.f3_meaning_whole.specs.Ran.{Event, replayed, World, End, Gives, Fails, Stops, Beyond, Ran, go_on, ◌>>=◌, gives, fails, beyond, looks, does, asks, each}
use Rattle.f3_meaning_whole.specs.Act.{Here, set, clear, enter, leave, begins}
use Rattle.f3_meaning_whole.specs.Permitted.{Each}
use Rattle.f3_meaning_laws.proofs.Keeping.{each-append, replayed-append}
use Rattle.f3_pure_laws.specs.Laws.{IsFree, IsQuiet}

-- there are this many levels
abbrev pub Has : ℕ → Store → Type 0
Has a s = length s.levels ≡ a

length_put : {A : Type 0} (xs : List A) (i : ℕ) (x : A) → length (slice_set xs i x) ≡ length xs
length_put [] i x = refl
length_put (y ∷ ys) zero x = refl
length_put (y ∷ ys) (suc i) x = ap suc (length_put ys i x)

root_has : (a : ℕ) (s : Store) (t : Root) (v : Value) → Has a s → Has a (with_root s t v)
root_has a s (Static i) v h = h
root_has a s (Local l i) v h = length_put s.levels l _ ∙ h

all_has : (a : ℕ) (ps : List Path) (vs : List Value) (s : Store) → Has a s → Has a (put_all ps vs s)
all_has a [] vs s h = h
all_has a (p ∷ ps) [] s h = h
all_has a (p ∷ ps) (v ∷ vs) s h = all_has a ps vs (put s p v) (root_has a s p.root _ h)

more_has : (a : ℕ) (xs : List (List Value)) (x : List Value) → length xs ≡ a → length (xs ++ x ∷ []) ≡ suc a
more_has a [] x h = ap suc h
more_has a (y ∷ ys) x h = ap suc (more_has (length ys) ys x refl) ∙ ap suc h

taken_has : (l : ℕ) (xs : List (List Value)) → l ≤ length xs → length (take l xs) ≡ l
taken_has zero xs h = refl
taken_has (suc l) [] h = absurd (omega arith)
taken_has (suc l) (x ∷ xs) h = ap suc (taken_has l xs (omega arith))

module _ (level : ℕ) (free : Root → Bool) where
  -- what it gives is so, the store is the one that the events make, and has this many levels; it does not stop
  abbrev pub OnGives : {A : Type 0} → ℕ → (A → Type 0) → Store → List Event → End A → Type 0
  OnGives b P s out (Gives x w) = P x × (w.store ≡ replayed out s) × Has b w.store
  OnGives b P s out (Fails error place) = ⊤
  OnGives b P s out (Stops code) = ⊥
  OnGives b P s out Beyond = ⊤

  -- from so many levels to so many, by quiet events
  pub record Runs {A : Type 0} (a b : ℕ) (P : A → Type 0) (m : Ran A) : Type 0 where
    pub always : (w : World) → Has a w.store → Each (IsQuiet level free) (m.from w).out × OnGives b P w.store (m.from w).out (m.from w).end

  -- with nothing said of what it gives
  abbrev pub Quiet : {A : Type 0} → ℕ → Ran A → Type 0
  Quiet {A} a m = Runs {A = A} a a (λ x. ⊤) m

  later : {A : Type 0} (c : ℕ) (P : A → Type 0) (s t : Store) (x y : List Event) → t ≡ replayed x s → (end : End A) → OnGives c P t y end → OnGives c P s (x ++ y) end
  later c P s t x y e (Gives z w) h = (h.0, h.1 ∙ ap (replayed y) e ∙ sym (replayed-append x y s), h.2)
  later c P s t x y e (Fails error place) h = tt
  later c P s t x y e (Stops code) h = h
  later c P s t x y e Beyond h = tt

  pub bind_runs : {A B : Type 0} {a b c : ℕ} {P : A → Type 0} {Q : B → Type 0} {m : Ran A} {f : A → Ran B} → Runs a b P m → ((x : A) → P x → Runs b c Q (f x)) → Runs a c Q (m >>= f)
  unfolding ◌>>=◌
  bind_runs {A} {B} {a} {b} {c} {P} {Q} {m} {f} k h = record { always = λ w e. by w.store (m.from w).out (m.from w).end (k.always w e).0 (k.always w e).1 }
    where
      by : (s : Store) (out : List Event) (end : End A) → Each (IsQuiet level free) out → OnGives b P s out end
          → Each (IsQuiet level free) (go_on out end f).out × OnGives c Q s (go_on out end f).out (go_on out end f).end
      by s out (Gives x w) q g = (
        each-append (IsQuiet level free) out ((f x).from w).out q ((h x g.0).always w g.2).0,
        later c Q s w.store out ((f x).from w).out g.1 ((f x).from w).end ((h x g.0).always w g.2).1,
      )
      by s out (Fails error place) q g = (q, tt)
      by s out (Stops code) q g = (q, g)
      by s out Beyond q g = (q, tt)

  pub weaken : {A : Type 0} {a b : ℕ} {P Q : A → Type 0} {m : Ran A} → ((x : A) → P x → Q x) → Runs a b P m → Runs a b Q m
  weaken {A} {a} {b} {P} {Q} {m} h k = record { always = λ w e. ((k.always w e).0, by w.store (m.from w).out (m.from w).end (k.always w e).1) }
    where
      by : (s : Store) (out : List Event) (end : End A) → OnGives b P s out end → OnGives b Q s out end
      by s out (Gives x w) g = (h x g.0, g.1, g.2)
      by s out (Fails error place) g = tt
      by s out (Stops code) g = g
      by s out Beyond g = tt

  pub gives_runs : {A : Type 0} {a : ℕ} {P : A → Type 0} (x : A) → P x → Runs a a P (gives x)
  unfolding gives
  gives_runs x h = record { always = λ w e. (tt, (h, refl, e)) }

  pub gives_quiet : {A : Type 0} {a : ℕ} (x : A) → Quiet {A = A} a (gives x)
  gives_quiet x = gives_runs x tt

  pub fails_runs : {A : Type 0} {a b : ℕ} {P : A → Type 0} (error : RunError) (place : Place) → Runs a b P (fails error place)
  unfolding fails
  fails_runs error place = record { always = λ w e. (tt, tt) }

  pub beyond_runs : {A : Type 0} {a b : ℕ} {P : A → Type 0} → Runs a b P beyond
  unfolding beyond
  beyond_runs = record { always = λ w e. (tt, tt) }

  pub looks_runs : {A : Type 0} {a : ℕ} {P : A → Type 0} (f : Store → A) → ((s : Store) → Has a s → P (f s)) → Runs a a P (looks f)
  unfolding looks
  looks_runs f h = record { always = λ w e. (tt, (h w.store e, refl, e)) }

  pub looks_quiet : {A : Type 0} {a : ℕ} (f : Store → A) → Quiet {A = A} a (looks f)
  looks_quiet f = looks_runs f (λ s e. tt)

  -- as many levels as there are
  pub levels_runs : {a : ℕ} → Runs a a (λ x. x ≡ a) (looks (λ store. length store.levels))
  levels_runs = looks_runs _ (λ s e. e)

  pub does_runs : {a b : ℕ} (events : Store → List Event) → ((s : Store) → Each (IsQuiet level free) (events s)) → ((s : Store) → Has a s → Has b (replayed (events s) s)) → Runs a b (λ x. ⊤) (does events)
  unfolding does
  does_runs events q h = record { always = λ w e. (q w.store, (tt, refl, h w.store e)) }

  pub asks_quiet : {a : ℕ} → Quiet a asks
  unfolding asks
  asks_quiet = record { always = λ w e. (tt, (tt, refl, e)) }

  pub if_runs : {A : Type 0} {a b : ℕ} {P : A → Type 0} (x : Bool) {r s : Ran A} → Runs a b P r → Runs a b P s → Runs a b P (if x then r else s)
  if_runs true h k = h
  if_runs false h k = k

  pub each_runs : {A : Type 0} {a : ℕ} (xs : List A) (act : A → Ran ⊤) (P : A → Type 0) → Each P xs → ((x : A) → P x → Quiet a (act x)) → Quiet a (each xs act)
  each_runs [] act P e h = gives_quiet tt
  each_runs (x ∷ xs) act P e h = bind_runs (h x e.0) (λ y z. each_runs xs act P e.1 h)

  -- ---- what happens

  pub set_runs : {a : ℕ} (r : Reference) (x : Value) (here : Here) → Each (IsFree free) (paths r) → Quiet a (set r x here)
  set_runs {a} r x here h = does_runs _ (λ s. (h, tt)) (λ s e. all_has a (paths r) _ s e)

  pub clear_runs : {a : ℕ} (r : Reference) (here : Here) → Each (IsFree free) (paths r) → Quiet a (clear r here)
  clear_runs {a} r here h = does_runs _ (λ s. (h, tt)) (λ s e. all_has a (paths r) _ s e)

  pub begins_quiet : {a : ℕ} (here : Here) → Quiet a (begins here)
  begins_quiet here = does_runs _ (λ s. (tt, tt)) (λ s e. e)

  pub enter_runs : {a : ℕ} (vs : List Value) → Runs a (suc a) (λ x. ⊤) (enter vs)
  enter_runs {a} vs = does_runs _ (λ s. (tt, tt)) (λ s e. more_has a s.levels vs e)

  pub leave_runs : {a : ℕ} (l : ℕ) → level ≤ l → l ≤ a → Runs a l (λ x. ⊤) (leave l)
  leave_runs {a} l low high = does_runs _ (λ s. (low, tt)) (λ s e. taken_has l s.levels (subst (λ k. l ≤ k) (sym e) high))
