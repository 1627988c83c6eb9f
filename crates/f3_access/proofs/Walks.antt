-- A walk over some places of a list.
use Rattle.std.proofs.Common.{◌≡◌, ◌≢◌, ℕ, zero, suc, ◌+◌, ◌-◌, ◌<◌, ◌≤◌, List, [], ◌∷◌, ◌++◌, length, drop, get_or, nat_eq, nat_lt, None, Some, Bool, true, false, ◌==◌, if◌then◌else◌, slice_get, refl, sym, ap, subst, ◌∙◌, arith, inl, inr, Contains}
use Rattle.std.specs.List.{flat_map, list_any}
use Rattle.std.specs.List.Sorted.{IsNonDecreasing, IsPermutation}
use Rattle.indexmap.specs.IndexSet.{insert_all}
use Rattle.std.proofs.lemmas.Bool.{cases_lt, cases_Bool, ltb-true, ltb-false, eqb-true, eq-eqb}
use Rattle.std.proofs.lemmas.List.{get_or_default}
use Rattle.std.proofs.lemmas.List.Sorted.{Contains-permutation}
use Rattle.std.proofs.lemmas.Option.{slice_get_within, slice_get_cases}
use Rattle.f3_lookups.specs.declared.lookup.Visible.{Visible}
use Rattle.f3_access.specs.Parts.{places_from}
use Rattle.f3_access.specs.Listing.{same_pair}
use Rattle.f3_access.specs.Inner.Walk.{unseen, RestIsSilent}
use Rattle.f3_selecting.proofs.Steps.{insert_more}
use Rattle.f3_selecting.proofs.Members.{Has, has_right, has_piece, any_of, contains_of}

module _ (f : Visible → List Visible) where
  -- one place that gives nothing
  step : (xs : List Visible) (a : ℕ) → ((e : Visible) → slice_get xs a ≡ Some e → f e ≡ []) → flat_map f (drop a xs) ≡ flat_map f (drop (suc a) xs)
  step [] zero h = refl
  step [] (suc a) h = refl
  step (x ∷ xs) zero h = ap (λ l. l ++ flat_map f xs) (h x refl)
  step (x ∷ xs) (suc a) h = step xs a h

  -- one place that is taken
  taken : (xs : List Visible) (p : ℕ) (x : Visible) → slice_get xs p ≡ Some x → flat_map f (drop p xs) ≡ f x ++ flat_map f (drop (suc p) xs)
  taken [] p x h = absurd (let past = slice_get_within [] p x h in omega arith)
  taken (y ∷ ys) zero x h = let same : y ≡ x = cc in ap (λ z. f z ++ flat_map f ys) same
  taken (y ∷ ys) (suc p) x h = taken ys p x h

  past_all : (xs : List Visible) (a : ℕ) → length xs ≤ a → flat_map f (drop a xs) ≡ []
  past_all [] zero h = refl
  past_all [] (suc a) h = refl
  past_all (x ∷ xs) zero h = absurd (omega arith)
  past_all (x ∷ xs) (suc a) h = past_all xs a (omega arith)

  module _ (xs : List Visible) where
    skip : (n a : ℕ) → ((q : ℕ) (e : Visible) → a ≤ q → q < a + n → slice_get xs q ≡ Some e → f e ≡ []) → flat_map f (drop a xs) ≡ flat_map f (drop (a + n) xs)
    skip zero a h = ap (λ k. flat_map f (drop k xs)) (let e : a ≡ a + 0 = omega arith in e)
    skip (suc n) a h =
        step xs a (λ e at. h a e (omega arith) (omega arith) at)
        ∙ skip n (suc a) (λ q e ge lt at. h q e (omega arith) (omega arith) at)
        ∙ ap (λ k. flat_map f (drop k xs)) (let e : suc a + n ≡ a + suc n = omega arith in e)

    to : (a b : ℕ) → a ≤ b → ((q : ℕ) (e : Visible) → a ≤ q → q < b → slice_get xs q ≡ Some e → f e ≡ []) → flat_map f (drop a xs) ≡ flat_map f (drop b xs)
    to a b le h = let sum : a + (b - a) ≡ b = omega arith in
        skip (b - a) a (λ q e ge lt at. h q e ge (omega arith) at) ∙ ap (λ k. flat_map f (drop k xs)) sum

    module _ (places : List ℕ) where
      abbrev Rest : ℕ → ℕ → Type 0
      Rest next i = RestIsSilent f xs next places i

      -- what is left after one place
      pub rest_more : (next later i : ℕ) → next ≤ later → ((q : ℕ) → later ≤ q → q < length xs → get_or places i 0 ≢ q) → Rest next i → Rest later (i + 1)
      rest_more next later i le apart rest q e ge at none =
          rest q e (omega arith) at (λ k from below same. elim (cases_lt i k) [
            | inl less ↦ none k (omega arith) below same
            | inr most ↦ let here : k ≡ i = omega arith in apart q ge (slice_get_within xs q e at) (subst (λ j. get_or places j 0 ≡ q) here same)
          ])

      pub rest_ends : (next i : ℕ) → length places ≤ i → Rest next i → flat_map f (drop next xs) ≡ []
      rest_ends next i done rest =
          to next (next + length xs) (omega arith) (λ q e ge lt at. rest q e ge at (λ k from below same. absurd (omega arith))) ∙ past_all xs (next + length xs) (omega arith)

      -- nothing between the next place and one of the list
      pub rest_jumps : IsNonDecreasing places → (next i : ℕ) → i < length places → next ≤ get_or places i 0 → Rest next i → flat_map f (drop next xs) ≡ flat_map f (drop (get_or places i 0) xs)
      rest_jumps order next i below le rest =
          to next (get_or places i 0) le (λ q e ge lt at. rest q e ge at (λ k from within same. let up = order i k 0 from within in omega (arith, up, same, lt)))

-- what is unseen at a place
found_at : (xs : List Visible) (p next : ℕ) (x : Visible) → unseen xs p next ≡ Some x → (next ≤ p) × (slice_get xs p ≡ Some x)
found_at xs p next x h = by (nat_lt p next) refl h
  where
    by : (t : Bool) → nat_lt p next ≡ t → (if t then None else slice_get xs p) ≡ Some x → (next ≤ p) × (slice_get xs p ≡ Some x)
    by true e h = absurd (let no : ⊥ = cc in no)
    by false e h = (ltb-false p next e, h)

passed : (xs : List Visible) (p next : ℕ) → unseen xs p next ≡ None → (q : ℕ) → next ≤ q → q < length xs → p ≢ q
passed xs p next h q ge lt same = by (nat_lt p next) refl h
  where
    by : (t : Bool) → nat_lt p next ≡ t → (if t then None else slice_get xs p) ≡ None → ⊥
    by true e h = let less : p < next = ltb-true p next e in omega arith
    by false e h = elim ((slice_get_cases xs p).1) [
      | inl r ↦ (let there : slice_get xs p ≡ Some r.0 = r.2 in let no : ⊥ = cc in no)
      | inr r ↦ (let past = r.0 in omega arith)
    ]

module _ (f : Visible → List Visible) (xs : List Visible) (places : List ℕ) where
  -- one place that is seen
  pub walk_more : IsNonDecreasing places → (ks all : List Visible) (next i : ℕ) (x : Visible) → i < length places → unseen xs (get_or places i 0) next ≡ Some x
      → insert_all same_pair ks (flat_map f (drop next xs)) ≡ all → RestIsSilent f xs next places i
      → (insert_all same_pair (insert_all same_pair ks (f x)) (flat_map f (drop (get_or places i 0 + 1) xs)) ≡ all) × RestIsSilent f xs (get_or places i 0 + 1) places (i + 1)
  walk_more order ks all next i x below seen so_far rest =
      let p = get_or places i 0 in
      let at = found_at xs p next x seen in
      let more : suc p ≡ p + 1 = omega arith in
      let split : flat_map f (drop next xs) ≡ f x ++ flat_map f (drop (p + 1) xs) =
      rest_jumps f xs places order next i below at.0 rest ∙ taken f xs p x at.1 ∙ ap (λ k. f x ++ flat_map f (drop k xs)) more in
      (sym (insert_more same_pair ks (f x) (flat_map f (drop (p + 1) xs))) ∙ ap (insert_all same_pair ks) (sym split) ∙ so_far, rest_more f xs places next (p + 1) i (omega (arith, at.0)) (λ q ge lt same. omega arith) rest)

  -- one place that is passed over
  pub walk_on : (next i : ℕ) → unseen xs (get_or places i 0) next ≡ None → RestIsSilent f xs next places i → RestIsSilent f xs next places (i + 1)
  walk_on next i none rest = rest_more f xs places next next i (omega arith) (λ q ge lt. passed xs (get_or places i 0) next none q ge lt) rest

  -- no place is left
  pub walk_ends : (ks all : List Visible) (next i : ℕ) → length places ≤ i → insert_all same_pair ks (flat_map f (drop next xs)) ≡ all → RestIsSilent f xs next places i → ks ≡ all
  walk_ends ks all next i done so_far rest = ap (insert_all same_pair ks) (sym (rest_ends f xs places next i done rest)) ∙ so_far

-- the places of a name
places_has : (k : ℕ) (xs : List Visible) (q : ℕ) (e : Visible) → slice_get xs q ≡ Some e → Has (places_from k xs e.symbol) (k + q)
places_has k [] q e at = absurd (let past = slice_get_within [] q e at in omega arith)
places_has k (x ∷ xs) zero e at = let same : x ≡ e = cc in by (eq-eqb x.symbol e.symbol (ap (λ v. v.symbol) same))
  where
    by : (x.symbol == e.symbol) ≡ true → Has ((if x.symbol == e.symbol then k ∷ [] else []) ++ places_from (k + 1) xs e.symbol) (k + 0)
    by t = rw t (inl (omega arith))
places_has k (x ∷ xs) (suc q) e at =
    has_right (if x.symbol == e.symbol then k ∷ [] else []) (places_from (k + 1) xs e.symbol) (k + suc q)
    (subst (Has (places_from (k + 1) xs e.symbol)) (let s : (k + 1) + q ≡ k + suc q = omega arith in s) (places_has (k + 1) xs q e at))

-- What has one of the names stands at one of their places.
pub walk_silent : (f : Visible → List Visible) (xs : List Visible) (names places : List ℕ) (placed : ℕ → List ℕ) → ((n : ℕ) → placed n ≡ places_from 0 xs n)
    → ((e : Visible) → list_any (nat_eq e.symbol) names ≡ false → f e ≡ []) → IsPermutation (flat_map placed names) places → RestIsSilent f xs 0 places 0
walk_silent f xs names places placed known unnamed permuted q e ge at none = elim (cases_Bool (list_any (nat_eq e.symbol) names)) [
  | inr f2 ↦ unnamed e f2
  | inl t ↦
      let n = any_of (nat_eq e.symbol) names t in
      let same : e.symbol ≡ n.0 = eqb-true e.symbol n.0 n.2 in
      let here : Has (placed n.0) q = subst (λ l. Has l q) (ap (places_from 0 xs) same ∙ sym (known n.0)) (subst (Has (places_from 0 xs e.symbol)) (let zero_more : 0 + q ≡ q = omega arith in zero_more) (places_has 0 xs q e at)) in
      let there : Contains places q = Contains-permutation (flat_map placed names) places q permuted (contains_of (flat_map placed names) q (has_piece placed names n.0 q n.1 here)) in
      absurd (none there.0 (omega arith) there.1 (get_or_default places there.0 0 q there.1 ∙ there.2))
]
