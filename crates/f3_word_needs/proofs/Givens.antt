-- A procedure is called with as many arguments as it has dummies.
use Rattle.std.proofs.Common.{◌≡◌, ◌∙◌, inl, inr, ℕ, zero, suc, ◌+◌, ◌<◌, ◌≤◌, true, List, [], ◌∷◌, length, refl, sym, ap, arith}
use Rattle.std.specs.Prelude.{Some, None, nat_eq, slice_get}
use Rattle.std.proofs.lemmas.Bool.{cases_eq, cases_lt, eqb-true, ne_eqb, eq-eqb}
use Rattle.std.proofs.lemmas.Option.{slice_get_past}
use Rattle.f3_program.specs.declared.program.Dummy.{Dummy}
use Rattle.f3_meaning_whole.specs.Formed.{Given, all, all_given, fits_dummy, given_for}
use Rattle.f3_cell_kinds.proofs.Asked.{and_is, some_is}

-- how many have numbers from one on, below another
below : ℕ → ℕ → List Given → ℕ
below k zero gs = 0
below k (suc n) gs = given_for k gs + below (suc k) n gs

below_none : (k n : ℕ) → below k n [] ≡ 0
unfolding below
below_none k zero = refl
below_none k (suc n) = omega (arith, below_none (suc k) n)

given_one : (k : ℕ) (g : Given) (gs : List Given) → g.number ≡ k → given_for k (g ∷ gs) ≡ suc (given_for k gs)
given_one k g gs e = rw (eq-eqb g.number k e) refl

given_other : (k : ℕ) (g : Given) (gs : List Given) → (g.number ≡ k → ⊥) → given_for k (g ∷ gs) ≡ given_for k gs
given_other k g gs ne = rw (ne_eqb g.number k ne) refl

-- one with a number before these is none of them
below_before : (k n : ℕ) (g : Given) (gs : List Given) → g.number < k → below k n (g ∷ gs) ≡ below k n gs
unfolding below
below_before k zero g gs le = refl
below_before k (suc n) g gs le =
    let e = given_other k g gs (λ same. omega (arith, le, same)) in
    let f = below_before (suc k) n g gs (omega (arith, le)) in
    omega (arith, e, f)

below_one : (k n : ℕ) (g : Given) (gs : List Given) → k ≤ g.number → g.number < k + n → below k n (g ∷ gs) ≡ suc (below k n gs)
unfolding below
below_one k zero g gs le lt = absurd (omega (arith, le, lt))
below_one k (suc n) g gs le lt = elim (cases_eq g.number k) [
  | inl e ↦ let a = given_one k g gs e in let b = below_before (suc k) n g gs (omega (arith, e)) in omega (arith, a, b)
  | inr ne ↦ let a = given_other k g gs ne in let b = below_one (suc k) n g gs (omega (arith, le, ne)) (omega (arith, lt)) in omega (arith, a, b)
]

number_in : (ds : List Dummy) (g : Given) → fits_dummy ds g ≡ true → g.number < length ds
number_in ds g e = let x = some_is (slice_get ds g.number) _ e in elim (cases_lt g.number (length ds)) [
  | inl lt ↦ lt
  | inr le ↦ absurd (let none = slice_get_past ds g.number le in let some : None ≡ Some x.0 = sym none ∙ x.1 in cc)
]

all_below : (ds : List Dummy) (gs : List Given) → all (fits_dummy ds) gs ≡ true → below 0 (length ds) gs ≡ length gs
all_below ds [] e = below_none 0 (length ds)
all_below ds (g ∷ gs) e =
    let parts = and_is (fits_dummy ds g) (all (fits_dummy ds) gs) e in
    let lt = number_in ds g parts.0 in
    let low : 0 ≤ g.number = omega arith in
    below_one 0 (length ds) g gs low (omega (arith, lt)) ∙ ap suc (all_below ds gs parts.1)

each_below : (k : ℕ) (ds : List Dummy) (gs : List Given) → all_given k ds gs ≡ true → below k (length ds) gs ≡ length ds
unfolding below
each_below k [] gs e = refl
each_below k (d ∷ ds) gs e =
    let parts = and_is (nat_eq (given_for k gs) 1) (all_given (suc k) ds gs) e in
    let one : given_for k gs ≡ 1 = eqb-true (given_for k gs) 1 parts.0 in
    let more = each_below (suc k) ds gs parts.1 in
    omega (arith, one, more)

pub givens_are_dummies : (ds : List Dummy) (gs : List Given) → all (fits_dummy ds) gs ≡ true → all_given 0 ds gs ≡ true → length gs ≡ length ds
givens_are_dummies ds gs fit each = sym (all_below ds gs fit) ∙ each_below 0 ds gs each
