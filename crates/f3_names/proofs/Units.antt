-- Units among the scopes.
use Rattle.std.proofs.Common.{◌≡◌, ◌≢◌, ℕ, zero, suc, ◌+◌, ◌<◌, ◌≤◌, ◌⊎◌, List, [], ◌∷◌, ◌++◌, Some, length, get_or, slice_get, refl, ap, subst, ◌∙◌, inl, inr, arith, zero-add}
use Rattle.std.proofs.lemmas.Option.{slice_get_within, slice_get-get_or}
use Rattle.f3_tree.specs.Tree.{UnitTree, Tree}
use Rattle.f3_scopes.specs.Outlines.{Scope}
use Rattle.f3_scopes.specs.Scopes.{scope_of_unit, unit_scopes, scopes_from, scopes_of}
use Rattle.f3_access.specs.Access.{IsUnit}
use Rattle.f3_names.specs.Tables.{scope_numbers}
use Rattle.f3_names.specs.Inner.Making.{of_unit, unit_numbers}
use Rattle.f3_names.proofs.Inside.{AreInside, inner, inside_at, inner_inside}

behind : {X : Type 0} (xs ys : List X) (k : ℕ) (x : X) → slice_get ys k ≡ Some x → slice_get (xs ++ ys) (length xs + k) ≡ Some x
behind [] ys k x h = subst (λ n. slice_get ys n ≡ Some x) (let e : k ≡ 0 + k = omega arith in e) h
behind (z ∷ zs) ys k x h = subst (λ n. slice_get (z ∷ zs ++ ys) n ≡ Some x) (let e : suc (length zs + k) ≡ length (z ∷ zs) + k = omega arith in e) (behind zs ys k x h)

apart : {X : Type 0} (xs ys : List X) (p : ℕ) (x : X) → slice_get (xs ++ ys) p ≡ Some x → (slice_get xs p ≡ Some x) ⊎ ((q : ℕ) × (p ≡ length xs + q) × (slice_get ys q ≡ Some x))
apart [] ys p x h = inr (p, omega arith, h)
apart (z ∷ zs) ys zero x h = inl h
apart (z ∷ zs) ys (suc p) x h = elim (apart zs ys p x h) [ inl a ↦ inl a | inr b ↦ inr (b.0, let e = b.1 in omega (arith, e), b.2) ]

pub there : {X : Type 0} (xs : List X) (k : ℕ) → k < length xs → (x : X) × (slice_get xs k ≡ Some x)
there [] k lt = absurd (omega arith)
there (y ∷ ys) zero lt = (y, refl)
there (y ∷ ys) (suc k) lt = there ys k (omega arith)

-- a unit stands among the scopes at its number
pub unit_at : (n : ℕ) (us : List UnitTree) (k : ℕ) (u : UnitTree) → slice_get us k ≡ Some u
    → (p : ℕ) × (slice_get (scope_numbers n us) k ≡ Some (n + p)) × (slice_get (scopes_from n us) p ≡ Some (scope_of_unit u))
unit_at n [] k u h = absurd (let past = slice_get_within [] k u h in omega arith)
unit_at n (v ∷ vs) zero u h = (0, ap Some (let e : n ≡ n + 0 = omega arith in e), let same : v ≡ u = cc in ap (λ w. Some (scope_of_unit w)) same)
unit_at n (v ∷ vs) (suc k) u h =
    let size = length (unit_scopes n v) in
    let (p, number, here) = unit_at (n + size) vs k u h in (
      size + p,
      number ∙ ap Some (let e : n + size + p ≡ n + (size + p) = omega arith in e),
      behind (unit_scopes n v) (scopes_from (n + size) vs) p (scope_of_unit u) here,
    )

pub Found : ℕ → List UnitTree → ℕ → Scope → Type 0
Found n us p s = (k : ℕ) × (u : UnitTree) × (slice_get us k ≡ Some u) × (s ≡ scope_of_unit u) × (slice_get (scope_numbers n us) k ≡ Some (n + p))

first_unit : (n : ℕ) (u : UnitTree) (us : List UnitTree) (p : ℕ) (s : Scope) → slice_get (unit_scopes n u) p ≡ Some s → IsUnit s → Found n (u ∷ us) p s
unfolding Found
first_unit n u us zero s at is = (0, u, refl, let same : s ≡ scope_of_unit u = cc in same, ap Some (let e : n ≡ n + 0 = omega arith in e))
first_unit n u us (suc p) s at is = absurd ((inside_at (n + 1) (inner n u) p s (inner_inside n u) at).3 is)

-- each unit among the scopes is one of the program's, at its number
unit_from : (n : ℕ) (us : List UnitTree) (p : ℕ) (s : Scope) → slice_get (scopes_from n us) p ≡ Some s → IsUnit s → Found n us p s
unfolding Found
unit_from n [] p s at is = absurd (let past = slice_get_within [] p s at in omega arith)
unit_from n (u ∷ us) p s at is =
    let size = length (unit_scopes n u) in
    elim (apart (unit_scopes n u) (scopes_from (n + size) us) p s at) [
      | inl a ↦ first_unit n u us p s a is
      | inr (q, e, b) ↦
          let (k, v, at_k, same, number) = unit_from (n + size) us q s b is in (
            suc k,
            v,
            at_k,
            same,
            number ∙ ap Some (let sum : n + size + q ≡ n + p = omega (arith, e) in sum),
          )
    ]

pub unit_of : (t : Tree) (number : ℕ) (s : Scope) → slice_get (scopes_of t) number ≡ Some s → IsUnit s
    → (k : ℕ) × (u : UnitTree) × (slice_get t.units k ≡ Some u) × (s ≡ scope_of_unit u) × (slice_get (scope_numbers 0 t.units) k ≡ Some number)
unfolding Found
unit_of t number s at is =
    let (k, u, at_k, same, here) = unit_from 0 t.units number s at is in
    (k, u, at_k, same, here ∙ ap Some (zero-add number))

pub numbers_long : (n : ℕ) (us : List UnitTree) → length (scope_numbers n us) ≡ length us
numbers_long n [] = refl
numbers_long n (u ∷ us) = let rest = numbers_long (n + length (unit_scopes n u)) us in omega (arith, rest)

numbers_least : (n : ℕ) (us : List UnitTree) (k m : ℕ) → slice_get (scope_numbers n us) k ≡ Some m → n ≤ m
numbers_least n [] k m h = absurd (let past = slice_get_within [] k m h in omega arith)
numbers_least n (u ∷ us) zero m h = let same : n ≡ m = cc in omega (arith, same)
numbers_least n (u ∷ us) (suc k) m h = let rest = numbers_least (n + length (unit_scopes n u)) us k m h in omega (arith, rest)

numbers_rise : (n : ℕ) (us : List UnitTree) (j k a b : ℕ) → j < k → slice_get (scope_numbers n us) j ≡ Some a → slice_get (scope_numbers n us) k ≡ Some b → a < b
numbers_rise n [] j k a b lt at_j at_k = absurd (let past = slice_get_within [] j a at_j in omega arith)
numbers_rise n (u ∷ us) j zero a b lt at_j at_k = absurd (omega (arith, lt))
numbers_rise n (u ∷ us) zero (suc k) a b lt at_j at_k =
    let same : n ≡ a = cc in
    let least = numbers_least (n + length (unit_scopes n u)) us k b at_k in
    omega (arith, same, least)
numbers_rise n (u ∷ us) (suc j) (suc k) a b lt at_j at_k = numbers_rise (n + length (unit_scopes n u)) us j k a b (omega (arith, lt)) at_j at_k

pub numbers_differ : (us : List UnitTree) (j k : ℕ) → j < length us → k < length us → j < k → get_or (scope_numbers 0 us) j 0 ≢ get_or (scope_numbers 0 us) k 0
numbers_differ us j k in_j in_k lt same =
    let size = numbers_long 0 us in
    let at_j = slice_get-get_or (scope_numbers 0 us) j 0 (omega (arith, in_j, size)) in
    let at_k = slice_get-get_or (scope_numbers 0 us) k 0 (omega (arith, in_k, size)) in
    let less = numbers_rise 0 us j k (get_or (scope_numbers 0 us) j 0) (get_or (scope_numbers 0 us) k 0) lt at_j at_k in
    omega (arith, less, same)

-- the scopes without a host are the units
hosted : (n m : ℕ) (xs rest : List Scope) → AreInside m xs → unit_numbers n (xs ++ rest) ≡ unit_numbers (n + length xs) rest
hosted n m [] rest a = ap (λ k. unit_numbers k rest) (let e : n ≡ n + 0 = omega arith in e)
hosted n m (x ∷ xs) rest ((host, e, less, outside), a) =
    ap (λ o. of_unit n o ++ unit_numbers (n + 1) (xs ++ rest)) e
    ∙ hosted (n + 1) (m + 1) xs rest a ∙ ap (λ k. unit_numbers k rest) (let sum : n + 1 + length xs ≡ n + length (x ∷ xs) = omega arith in sum)

pub numbers_same : (n : ℕ) (us : List UnitTree) → unit_numbers n (scopes_from n us) ≡ scope_numbers n us
numbers_same n [] = refl
numbers_same n (u ∷ us) =
    let size = length (unit_scopes n u) in
    let sum : n + 1 + length (inner n u) ≡ n + size = omega arith in
    ap (λ l. n ∷ l) (hosted (n + 1) (n + 1) (inner n u) (scopes_from (n + size) us) (inner_inside n u) ∙ ap (λ k. unit_numbers k (scopes_from (n + size) us)) sum ∙ numbers_same (n + size) us)
