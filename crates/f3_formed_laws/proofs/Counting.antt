-- Numbers that stand once, and among as many as there are.
use Rattle.std.proofs.Common.{◌≡◌, ℕ, zero, suc, ◌+◌, ◌<◌, ◌≤◌, ◌≢◌, Bool, true, false, ◌||◌, List, [], ◌∷◌, ◌++◌, length, Some, refl, sym, ap, ◌∙◌}
use Rattle.std.proofs.Common.{if◌then◌else◌, nat_eq, arith, inl, inr}
use Rattle.std.specs.List.{list_any}
use Rattle.std.proofs.lemmas.List.Folds.{list_any-append}
use Rattle.std.proofs.lemmas.Bool.Decides.{eqb_tells}
use mathlib.Core.Path.{subst}
use Rattle.f3_program.specs.declared.program.Dummy.{Dummy}
use Rattle.f3_kinds.specs.Calls.{added}
use Rattle.f3_meaning_whole.specs.Permitted.{Each}
use Rattle.f3_meaning_whole.specs.Formed.{Given, given_for, all_given, all, at_most_once}
use Rattle.f3_lawful_laws.proofs.Facts.{no, both}
use Rattle.f3_lawful_laws.proofs.Positions.{eq_same, eq_self}

-- ---- numbers that stand once, and not among those that are taken

pub record Once (taken : List ℕ) (gs : List Given) : Type 0 where
  pub once : (k : ℕ) → given_for k gs ≤ 1
  pub fresh : (k : ℕ) → list_any (nat_eq k) taken ≡ true → given_for k gs ≡ 0

pub once_none : (taken : List ℕ) → Once taken []
once_none taken = record { once = λ k. (let h : 0 ≤ 1 = omega arith in h); fresh = λ k e. refl }

added_new : (taken : List ℕ) (n : ℕ) → list_any (nat_eq n) taken ≡ false → added taken (Some n) ≡ taken ++ n ∷ []
added_new taken n e = go (list_any (nat_eq n) taken) e
  where
    go : (b : Bool) → b ≡ false → (if b then taken else taken ++ n ∷ []) ≡ taken ++ n ∷ []
    go true e = no e
    go false e = refl

pub added_longer : (taken : List ℕ) (n : ℕ) → list_any (nat_eq n) taken ≡ false → length (added taken (Some n)) ≡ suc (length taken)
added_longer taken n e = ap length (added_new taken n e) ∙ longer taken
  where
    longer : (xs : List ℕ) → length (xs ++ n ∷ []) ≡ suc (length xs)
    longer [] = refl
    longer (x ∷ xs) = ap suc (longer xs)

still_true : (a b : Bool) → a ≡ true → (a || b) ≡ true
still_true true b e = refl
still_true false b e = no (sym e)

true_behind : (a b : Bool) → b ≡ true → (a || b) ≡ true
true_behind true b e = refl
true_behind false b e = e

pub once_more : (taken : List ℕ) (g : Given) (gs : List Given) → list_any (nat_eq g.number) taken ≡ false → Once (added taken (Some g.number)) gs → Once taken (g ∷ gs)
once_more taken g gs new rest = record { once = λ k. once_at k (nat_eq g.number k) refl; fresh = λ k e. fresh_at k (nat_eq g.number k) refl e }
  where
    among : (k : ℕ) → list_any (nat_eq k) taken ≡ true → list_any (nat_eq k) (added taken (Some g.number)) ≡ true
    among k e =
        ap (list_any (nat_eq k)) (added_new taken g.number new) ∙ list_any-append (nat_eq k) taken (g.number ∷ []) ∙ still_true (list_any (nat_eq k) taken) _ e

    itself_in : list_any (nat_eq g.number) (added taken (Some g.number)) ≡ true
    itself_in =
        ap (list_any (nat_eq g.number)) (added_new taken g.number new) ∙ list_any-append (nat_eq g.number) taken (g.number ∷ [])
        ∙ true_behind (list_any (nat_eq g.number) taken) _ (still_true (nat_eq g.number g.number) false (eq_self g.number))

    once_at : (k : ℕ) (b : Bool) → nat_eq g.number k ≡ b → (if b then suc (given_for k gs) else given_for k gs) ≤ 1
    once_at k true e =
        let none : given_for k gs ≡ 0 = ap (λ j. given_for j gs) (sym (eq_same g.number k e)) ∙ rest.fresh g.number itself_in in
        (let h : suc (given_for k gs) ≤ 1 = omega (arith, none) in h)
    once_at k false e = rest.once k

    fresh_at : (k : ℕ) (b : Bool) → nat_eq g.number k ≡ b → list_any (nat_eq k) taken ≡ true → (if b then suc (given_for k gs) else given_for k gs) ≡ 0
    fresh_at k true e h = no (sym h ∙ ap (λ j. list_any (nat_eq j) taken) (sym (eq_same g.number k e)) ∙ new)
    fresh_at k false e h = rest.fresh k (among k h)

-- ---- each among as many as there are

abbrev sum_below : ℕ → (ℕ → ℕ) → ℕ
sum_below zero f = 0
sum_below (suc n) f = f n + sum_below n f

at_most : (n : ℕ) (f : ℕ → ℕ) → ((k : ℕ) → f k ≤ 1) → sum_below n f ≤ n
at_most zero f h = (let k : 0 ≤ 0 = omega arith in k)
at_most (suc n) f h = let a = h n in let b = at_most n f h in (let k : f n + sum_below n f ≤ suc n = omega (arith, a, b) in k)

each_one : (n : ℕ) (f : ℕ → ℕ) → ((k : ℕ) → f k ≤ 1) → sum_below n f ≡ n → (k : ℕ) → k < n → f k ≡ 1
each_one zero f h e k lt = absurd (let l : k < 0 = lt in omega (arith, l))
each_one (suc n) f h e k lt =
    let a : f n ≤ 1 = h n in
    let b : sum_below n f ≤ n = at_most n f h in
    let e' : f n + sum_below n f ≡ suc n = e in
    let last : f n ≡ 1 = omega (arith, a, b, e') in
    let others : sum_below n f ≡ n = omega (arith, a, b, e') in
    elim (eqb_tells k n) [
      | inl q ↦ ap f q.1 ∙ last
      | inr q ↦ each_one n f h others k (let l : k < suc n = lt in let m : k ≢ n = q.1 in omega (arith, l, m))
    ]

not_there : (n : ℕ) (g : Given) (gs : List Given) → n ≤ g.number → sum_below n (λ k. given_for k (g ∷ gs)) ≡ sum_below n (λ k. given_for k gs)
not_there zero g gs le = refl
not_there (suc n) g gs le =
    let other : nat_eq g.number n ≡ false =
    elim (eqb_tells g.number n) [ inl q ↦ absurd (let m : g.number ≡ n = q.1 in let l : suc n ≤ g.number = le in omega (arith, l, m)) | inr q ↦ q.0 ] in
    ap (λ b. (if b then suc (given_for n gs) else given_for n gs) + sum_below n (λ k. given_for k (g ∷ gs))) other
    ∙ ap (λ m. given_for n gs + m) (not_there n g gs (let l : suc n ≤ g.number = le in omega (arith, l)))

one_more : (n : ℕ) (g : Given) (gs : List Given) → g.number < n → sum_below n (λ k. given_for k (g ∷ gs)) ≡ suc (sum_below n (λ k. given_for k gs))
one_more zero g gs lt = absurd (let l : g.number < 0 = lt in omega (arith, l))
one_more (suc n) g gs lt = elim (eqb_tells g.number n) [
  | inl q ↦
      ap (λ b. (if b then suc (given_for n gs) else given_for n gs) + sum_below n (λ k. given_for k (g ∷ gs))) q.0
      ∙ ap (λ m. suc (given_for n gs) + m) (not_there n g gs (let m : g.number ≡ n = q.1 in omega (arith, m)))
      ∙ (let h : suc (given_for n gs) + sum_below n (λ k. given_for k gs) ≡ suc (given_for n gs + sum_below n (λ k. given_for k gs)) = omega arith in h)
  | inr q ↦
      let less : g.number < n = (let l : g.number < suc n = lt in let m : g.number ≢ n = q.1 in omega (arith, l, m)) in
      ap (λ b. (if b then suc (given_for n gs) else given_for n gs) + sum_below n (λ k. given_for k (g ∷ gs))) q.0
      ∙ ap (λ m. given_for n gs + m) (one_more n g gs less)
      ∙ (let h : given_for n gs + suc (sum_below n (λ k. given_for k gs)) ≡ suc (given_for n gs + sum_below n (λ k. given_for k gs)) = omega arith in h)
]

none_below : (n : ℕ) → sum_below n (λ k. given_for k []) ≡ 0
none_below zero = refl
none_below (suc n) = let h : sum_below n (λ k. given_for k []) ≡ 0 = none_below n in (let g : 0 + sum_below n (λ k. given_for k []) ≡ 0 = omega (arith, h) in g)

all_below : (n : ℕ) (gs : List Given) → Each (λ (g : Given). g.number < n) gs → sum_below n (λ k. given_for k gs) ≡ length gs
all_below n [] h = none_below n
all_below n (g ∷ gs) h = one_more n g gs h.0 ∙ ap suc (all_below n gs h.1)

-- as many numbers below a count, each once, are all below it
pub all_stand : (n : ℕ) (gs : List Given) → ((k : ℕ) → given_for k gs ≤ 1) → Each (λ (g : Given). g.number < n) gs → length gs ≡ n
    → (k : ℕ) → k < n → given_for k gs ≡ 1
all_stand n gs once low many k lt = each_one n (λ k. given_for k gs) once (all_below n gs low ∙ many) k lt

pub each_dummy : (k : ℕ) (xs : List Dummy) (gs : List Given) → ((j : ℕ) → j < k + length xs → given_for j gs ≡ 1) → all_given k xs gs ≡ true
each_dummy k [] gs h = refl
each_dummy k (x ∷ xs) gs h =
    both (nat_eq (given_for k gs) 1) _
    (ap (λ m. nat_eq m 1) (h k (let l : k < k + suc (length xs) = omega arith in l)))
    (each_dummy (suc k) xs gs (λ j lt. h j (let l : j < suc k + length xs = lt in let m : j < k + suc (length xs) = omega (arith, l) in m)))

-- ---- what stands there at most once stands there once

suc_more : (b : Bool) (m : ℕ) → m ≤ (if b then suc m else m)
suc_more true m = (let h : m ≤ suc m = omega arith in h)
suc_more false m = (let h : m ≤ m = omega arith in h)

here_one : (g : Given) (gs : List Given) → 1 ≤ given_for g.number (g ∷ gs)
here_one g gs = subst (λ b. 1 ≤ (if b then suc (given_for g.number gs) else given_for g.number gs)) (sym (eq_self g.number))
    (let h : 1 ≤ suc (given_for g.number gs) = omega arith in h)

pub stand_once : (whole gs : List Given) → ((k : ℕ) → given_for k whole ≤ 1) → ((k : ℕ) → given_for k gs ≤ given_for k whole) → all (at_most_once whole) gs ≡ true
stand_once whole [] once more = refl
stand_once whole (g ∷ gs) once more =
    let a : given_for g.number whole ≤ 1 = once g.number in
    let b : given_for g.number (g ∷ gs) ≤ given_for g.number whole = more g.number in
    let c : 1 ≤ given_for g.number (g ∷ gs) = here_one g gs in
    let one : given_for g.number whole ≡ 1 = omega (arith, a, b, c) in
    both (nat_eq (given_for g.number whole) 1) _ (ap (λ m. nat_eq m 1) one)
    (stand_once whole gs once (λ k. (let x : given_for k (g ∷ gs) ≤ given_for k whole = more k in
    let y : given_for k gs ≤ given_for k (g ∷ gs) = suc_more (nat_eq g.number k) (given_for k gs) in
    let z : given_for k gs ≤ given_for k whole = omega (arith, x, y) in z)))
