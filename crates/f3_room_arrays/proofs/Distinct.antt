-- Elements are aside of one another.
use Rattle.std.proofs.Common.{◌≡◌, ◌≢◌, ◌∙◌, sym, ap, subst, refl, inl, inr, ⊎_elim, ℕ, zero, suc, ◌+◌, ◌*◌, ◌<◌, ◌≤◌, true, false, List, [], ◌∷◌, ◌++◌, length, arith}
use Rattle.std.specs.Prelude.{⊤, ◌⊎◌, Option, None, Some, ℤ, pos, ◌+ℤ◌, ◌-ℤ◌, ◌*ℤ◌, ◌≤ℤ◌, ◌<ℤ◌, map, flat_map, slice_get, slice_index_or, if◌then◌else◌, unsigned_abs}
use Rattle.std.specs.List.{All, AllPairs, AllZip}
use Rattle.std.proofs.lemmas.Bool.{eq-eqb, ne_eqb, cases_lt}
use Rattle.std.proofs.lemmas.Int.{ints, unsigned_abs-mul}
use Rattle.std.proofs.Math.Nat.{mul-le-mul_left}
use Rattle.f3_meaning_whole.specs.Value.{Number, Truth, Composite, Array, Unallocated, Allocated, Values, none, more}
use Rattle.f3_meaning_whole.specs.Store.{Step, Component, Element, Contents, Path, within, same_step}
use Rattle.f3_meaning_whole.specs.Reference.{elements_from}
use Rattle.f3_meaning_whole.specs.Act.{added, elements_at}
use Rattle.f3_desc.specs.declared.descriptor.Dim.{Dim}
use Rattle.f3_desc.specs.declared.descriptor.Triplet.{Triplet}
use Rattle.f3_desc.specs.declared.descriptor.Triplet.TheVariants.{At, Range}
use Rattle.f3_desc.specs.Descriptor.{IsWithin, choices, progression}
use Rattle.f3_desc.specs.Section.{IsStepZero, selected, count as how_many}
use Rattle.f3_desc.proofs.Members.{In, in-All, from-map}
use Rattle.f3_desc.proofs.Progressions.{step-more}
use Rattle.f3_rooms.specs.Ways.{are_aside}
use Rattle.f3_room_arrays.specs.Changes.{AreAside}
use Rattle.f3_room_arrays.specs.Laws.{ElementsAreAside, SectionsStayAside, numbers}
use Rattle.f3_room_arrays.proofs.Landing.{turned}
use Rattle.f3_room_arrays.proofs.Sections.{lines}
use Rattle.f3_room_arrays.proofs.Placing.{all-first, all-rest, all-none, all-more}

-- ---- pairs

pairs-none : {X : Type 0} (R : X → X → Type 0) → AllPairs R []
pairs-none R i j d lt le = absurd (omega arith)

pairs-more : {X : Type 0} (R : X → X → Type 0) (x : X) (xs : List X) → All (R x) xs → AllPairs R xs → AllPairs R (x ∷ xs)
pairs-more R x xs here rest i zero d lt le = absurd (omega arith)
pairs-more R x xs here rest zero (suc j) d lt le = here j d (omega arith)
pairs-more R x xs here rest (suc i) (suc j) d lt le = rest i j d (omega arith) (omega arith)

-- ---- whole arrays

step-itself : (s : Step) → same_step s s ≡ true
step-itself (Component i) = eq-eqb i i refl
step-itself (Element i) = eq-eqb i i refl
step-itself Contents = refl

aside-behind : (way next other : List Step) → are_aside next other ≡ true → are_aside (way ++ next) (way ++ other) ≡ true
aside-behind [] next other e = e
aside-behind (s ∷ way) next other e = ap (λ b. if b then are_aside (way ++ next) (way ++ other) else true) (step-itself s) ∙ aside-behind way next other e

elements-apart : (p : Path) (i j : ℕ) → i < j → AreAside (within p (Element i)) (within p (Element j))
elements-apart p i j lt =
    let ne : i ≢ j = omega arith in
    inr (refl, aside-behind p.steps (Element i ∷ []) (Element j ∷ []) (ap (λ b. if b then false else true) (ne_eqb i j ne)))

later-apart : (p : Path) (i j : ℕ) (vs : Values) → i < j → All (AreAside (within p (Element i))) (elements_from j p vs)
later-apart p i j none lt = all-none (AreAside (within p (Element i)))
later-apart p i j (more v vs) lt =
    all-more (AreAside (within p (Element i))) (within p (Element j)) (elements_from (suc j) p vs) (elements-apart p i j lt) (later-apart p i (suc j) vs (omega arith))

pub all-apart : (p : Path) (i : ℕ) (vs : Values) → AllPairs AreAside (elements_from i p vs)
all-apart p i none = pairs-none AreAside
all-apart p i (more v vs) = pairs-more AreAside (within p (Element i)) (elements_from (suc i) p vs) (later-apart p i (suc i) vs (omega arith)) (all-apart p (suc i) vs)

one-apart : (p : Path) → AllPairs AreAside (p ∷ [])
one-apart p = pairs-more AreAside p [] (all-none (AreAside p)) (pairs-none AreAside)

pub elements_are_aside : ElementsAreAside
elements_are_aside p (Array ss vs) = all-apart p 0 vs
elements_are_aside p (Number n) = one-apart p
elements_are_aside p (Truth b) = one-apart p
elements_are_aside p (Composite vs) = one-apart p
elements_are_aside p Unallocated = one-apart p
elements_are_aside p (Allocated v) = one-apart p

-- ---- lists whose elements differ

abbrev Differ : {X : Type 0} → List X → Type 0
Differ [] = ⊤
Differ (x ∷ xs) = (In x xs → ⊥) × Differ xs

from-append : {X : Type 0} (x : X) (xs ys : List X) → In x (xs ++ ys) → In x xs ⊎ In x ys
from-append x [] ys m = inr m
from-append x (z ∷ xs) ys m = ⊎_elim (λ e. inl (inl e)) (λ n. ⊎_elim (λ a. inl (inr a)) inr (from-append x xs ys n)) m

from-flat_map : {X Y : Type 0} (f : X → List Y) (y : Y) (xs : List X) → In y (flat_map f xs) → (x : X) × (In x xs × In y (f x))
from-flat_map f y [] m = absurd m
from-flat_map f y (x ∷ xs) m = ⊎_elim (λ k. (x, (inl refl, k))) (λ k. let r = from-flat_map f y xs k in (r.0, (inr r.1.0, r.1.1))) (from-append y (f x) (flat_map f xs) m)

differ-append : {X : Type 0} (xs ys : List X) → Differ xs → Differ ys → ((x : X) → In x xs → In x ys → ⊥) → Differ (xs ++ ys)
differ-append [] ys a b apart = b
differ-append (x ∷ xs) ys a b apart = (
  λ m. ⊎_elim a.0 (apart x (inl refl)) (from-append x xs ys m),
  differ-append xs ys a.1 b (λ z m. apart z (inr m)),
)

differ-map : {X Y : Type 0} (f : X → Y) (xs : List X) → ((x z : X) → In x xs → In z xs → f x ≡ f z → x ≡ z) → Differ xs → Differ (map f xs)
differ-map f [] same a = tt
differ-map {X} f (x ∷ xs) same a = (
  λ m. let r = from-map f (f x) xs m in a.0 (subst (λ (w : X). In w xs) (sym (same x r.0 (inl refl) (inr r.1.0) r.1.1)) r.1.0),
  differ-map f xs (λ y z m n. same y z (inr m) (inr n)) a.1,
)

-- rows of numbers, each between multiples of so many
module _ (e : ℕ) (u : ℤ → ℕ) (zs : List ℤ) (below : (z : ℤ) → In z zs → u z < e) (same : (y z : ℤ) → In y zs → In z zs → u y ≡ u z → y ≡ z) (differ : Differ zs) where
  abbrev line : ℕ → List ℕ
  line k = map (λ z. u z + e * k) zs

  line-of : (k n : ℕ) → In n (line k) → (z : ℤ) × (In z zs × (n ≡ u z + e * k))
  line-of k n m = from-map (λ z. u z + e * k) n zs m

  same-row : (a b k i : ℕ) → a < e → b < e → a + e * k ≡ b + e * i → k ≡ i
  same-row a b zero zero la lb g = refl
  same-row a b zero (suc i) la lb g = absurd (omega arith)
  same-row a b (suc k) zero la lb g = absurd (omega arith)
  same-row a b (suc k) (suc i) la lb g = let r = same-row a b k i la lb (omega arith) in omega arith

  pub rows-differ : (ks : List ℕ) → Differ ks → Differ (flat_map line ks)
  rows-differ [] all = tt
  rows-differ (k ∷ ks) all =
      differ-append (line k) (flat_map line ks)
      (differ-map (λ z. u z + e * k) zs (λ y z m n g. same y z m n (omega arith)) differ) (rows-differ ks all.1)
      (λ n m o.
      let a = line-of k n m in
      let r = from-flat_map line n ks o in
      let b = line-of r.0 n r.1.1 in
      let is : k ≡ r.0 = same-row (u a.0) (u b.0) k r.0 (below a.0 a.1.0) (below b.0 b.1.0) (sym a.1.1 ∙ b.1.1) in
      all.0 (subst (λ (w : ℕ). In w ks) (sym is) r.1.0))

-- ---- what triplets select

later-than : (f k z : ℤ) (n : ℕ) → In z (progression f k n) → (j : ℕ) × (z ≡ f +ℤ (pos j *ℤ k))
later-than f k z zero m = absurd m
later-than f k z (suc n) m = ⊎_elim
    (λ e. (0, (let same : f ≡ f +ℤ (pos 0 *ℤ k) = omega (arith, ints) in e ∙ same)))
    (λ l. let r = later-than (f +ℤ k) k z n l in (suc r.0, r.1 ∙ step-more f k r.0)) m

progression-differs : (f k : ℤ) (n : ℕ) → k ≢ pos 0 → Differ (progression f k n)
progression-differs f k zero ne = tt
progression-differs f k (suc n) ne = (
  λ m. let r = later-than (f +ℤ k) k f n m in onward f k r.0 ne (r.1 ∙ step-more f k r.0),
  progression-differs (f +ℤ k) k n ne,
)
  where
    nonzero : (x : ℤ) → x ≢ pos 0 → 1 ≤ unsigned_abs x
    nonzero x n = omega (arith, ints)

    gone : (f y : ℤ) → f ≡ f +ℤ y → unsigned_abs y ≡ 0
    gone f y e = omega (arith, ints)

    onward : (f k : ℤ) (j : ℕ) → k ≢ pos 0 → f ≡ f +ℤ (pos (suc j) *ℤ k) → ⊥
    onward f k j ne e =
        let size = unsigned_abs-mul (pos (suc j)) k in
        let none = gone f (pos (suc j) *ℤ k) e in
        let some = nonzero k ne in
        let le : suc j * 1 ≤ suc j * unsigned_abs k = mul-le-mul_left (suc j) some in
        omega arith

selected-differ : (c : Triplet) → ¬ (IsStepZero c) → Differ (selected c)
selected-differ (At s) ne = (λ m. m, tt)
selected-differ (Range from to step) ne = progression-differs from step (how_many from to step) ne

numbers-differ : (ds : List Dim) (cs : List Triplet) → All (λ c. ¬ (IsStepZero c)) cs → AllZip (λ d c. All (IsWithin d) (selected c)) ds cs → Differ (numbers ds cs)
numbers-differ [] [] ne within = (λ m. m, tt)
numbers-differ [] (c ∷ cs) ne within = absurd within
numbers-differ (d ∷ ds) [] ne within = absurd within
numbers-differ (d ∷ ds) (c ∷ cs) ne within =
    let here : (z : ℤ) → In z (selected c) → IsWithin d z = λ z m. in-All (IsWithin d) z (selected c) within.0 m in
    subst Differ (sym (lines d ds (selected c) (choices (map selected cs))))
    (rows-differ d.extent (λ z. unsigned_abs (z -ℤ d.lower)) (selected c) (λ z m. below d.lower z d.extent (here z m).0 (here z m).1)
    (λ y z m o e. same d.lower y z (here y m).0 (here z o).0 e) (selected-differ c (all-first (λ c. ¬ (IsStepZero c)) c cs ne))
    (numbers ds cs) (numbers-differ ds cs (all-rest (λ c. ¬ (IsStepZero c)) c cs ne) within.1))
  where
    below : (l z : ℤ) (e : ℕ) → l ≤ℤ z → z <ℤ (l +ℤ pos e) → unsigned_abs (z -ℤ l) < e
    below l z e a b = omega (arith, ints)

    same : (l y z : ℤ) → l ≤ℤ y → l ≤ℤ z → unsigned_abs (y -ℤ l) ≡ unsigned_abs (z -ℤ l) → y ≡ z
    same l y z a b e = omega (arith, ints)

-- ---- sections

read-there : {X : Type 0} (xs : List X) (k : ℕ) (x d : X) → slice_get xs k ≡ Some x → (slice_index_or xs k d ≡ x) × (k < length xs)
read-there [] k x d e = absurd cc
read-there (y ∷ xs) zero x d e = (cc, omega arith)
read-there (y ∷ xs) (suc k) x d e = let r = read-there xs k x d e in (r.0, omega arith)

two-aside : (ps : List Path) → AllPairs AreAside ps → (i j : ℕ) (p q : Path) → i ≢ j → slice_get ps i ≡ Some p → slice_get ps j ≡ Some q → AreAside p q
two-aside ps pairs i j p q ne e g =
    let a = read-there ps i p p e in
    let b = read-there ps j q p g in
    elim (cases_lt i j) [
      | inl lt ↦ subst (λ (w : Path). AreAside w q) a.0 (subst (λ (w : Path). AreAside (slice_index_or ps i p) w) b.0 (pairs i j p lt b.1))
      | inr ge ↦ subst (λ (w : Path). AreAside w q) a.0 (subst (λ (w : Path). AreAside (slice_index_or ps i p) w) b.0 (turned (slice_index_or ps j p) (slice_index_or ps i p) (pairs j i p (omega arith) a.1)))
    ]

module _ (ps : List Path) (pairs : AllPairs AreAside ps) where
  rest-aside : (k : ℕ) (p : Path) → slice_get ps k ≡ Some p → (ks : List ℕ) → (In k ks → ⊥) → All (AreAside p) (elements_at ps ks)
  rest-aside k p e [] absent = all-none (AreAside p)
  rest-aside k p e (i ∷ ks) absent = by (rest-aside k p e ks (λ m. absent (inr m))) (slice_get ps i) refl
    where
      by : All (AreAside p) (elements_at ps ks) → (o : Option Path) → slice_get ps i ≡ o → All (AreAside p) (added o (elements_at ps ks))
      by rest None g = rest
      by rest (Some q) g = all-more (AreAside p) q (elements_at ps ks) (two-aside ps pairs k i p q (λ h. absent (inl h)) e g) rest

  pub some-aside : (ks : List ℕ) → Differ ks → AllPairs AreAside (elements_at ps ks)
  some-aside [] all = pairs-none AreAside
  some-aside (k ∷ ks) all = by (some-aside ks all.1) (slice_get ps k) refl
    where
      by : AllPairs AreAside (elements_at ps ks) → (o : Option Path) → slice_get ps k ≡ o → AllPairs AreAside (added o (elements_at ps ks))
      by rest None g = rest
      by rest (Some p) g = pairs-more AreAside p (elements_at ps ks) (rest-aside k p g ks all.0) rest

pub sections_stay_aside : SectionsStayAside
sections_stay_aside a cs ps ne within pairs = some-aside ps pairs (numbers a.dims.items cs) (numbers-differ a.dims.items cs ne within)
