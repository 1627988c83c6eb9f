-- Elements that are selected, by their places.
use Rattle.std.proofs.Common.{◌≡◌, length, ℕ, zero, suc, ◌+◌, ◌*◌, ◌≤◌, ℤ, Bool, true, false, List, [], ◌∷◌, ◌++◌, refl, sym, ap, ◌∙◌, arith, map, cond}
use Rattle.std.proofs.Common.{subst, T}
use Rattle.std.proofs.lemmas.Bool.{ltb-false, ltb-true, le-ltb, lt-ltb}
use Rattle.std.proofs.lemmas.Int.{ints}
use Rattle.std.proofs.lemmas.Simd.{map-map}
use Rattle.std.specs.Prelude.{nat_lt, ◌-ℤ◌, ◌<ℤ◌, ◌≤ℤ◌, int_le, int_lt, nat_abs, ◌&&◌}
use Rattle.std.specs.Prelude.{None, slice_get}
use Rattle.std.specs.List.{flat_map, filter_map, cons_option}
use Rattle.f3_meaning_whole.specs.Value.{Span}
use Rattle.f3_meaning_whole.specs.Act.{Chosen, At, Range, end_of, is_inside, subscripts_in, spans_in, all_inside}
use Rattle.f3_data.specs.declared.reference.Numbers.{Numbers}
use Rattle.f3_data.specs.declared.reference.Numbers.TheVariants as numbers
use Rattle.f3_data.specs.References.{counted, numbers_of}
use Rattle.f3_located.proofs.Arrays.{counted_at, counted_length}
use Rattle.f3_object_steps.proofs.Stepping.{below_extent}
use Rattle.f3_object_steps.specs.Selections.{kept, row_of, rows_of, spans_with, AreBelow}

kept_by : (b : Bool) (k : ℕ) (ks : List ℕ) → b ≡ true → cond b (k ∷ ks) ks ≡ k ∷ ks
kept_by true k ks e = refl
kept_by false k ks e = cc

left_by : (b : Bool) (k : ℕ) (ks : List ℕ) → b ≡ false → cond b (k ∷ ks) ks ≡ ks
left_by false k ks e = refl
left_by true k ks e = cc

pub keeps : (limit k : ℕ) (ks : List ℕ) → nat_lt k limit ≡ true → kept limit (k ∷ ks) ≡ k ∷ kept limit ks
keeps limit k ks e = kept_by (nat_lt k limit) k (kept limit ks) e

pub leaves : (limit k : ℕ) (ks : List ℕ) → nat_lt k limit ≡ false → kept limit (k ∷ ks) ≡ kept limit ks
leaves limit k ks e = left_by (nat_lt k limit) k (kept limit ks) e

joined_by : (b : Bool) (k : ℕ) (xs ys : List ℕ) → cond b (k ∷ (xs ++ ys)) (xs ++ ys) ≡ cond b (k ∷ xs) xs ++ ys
joined_by true k xs ys = refl
joined_by false k xs ys = refl

pub kept_append : (limit : ℕ) (xs ys : List ℕ) → kept limit (xs ++ ys) ≡ kept limit xs ++ kept limit ys
kept_append limit [] ys = refl
kept_append limit (x ∷ xs) ys = ap (λ zs. cond (nat_lt x limit) (x ∷ zs) zs) (kept_append limit xs ys) ∙ joined_by (nat_lt x limit) x (kept limit xs) (kept limit ys)

-- ---- of a row that begins past the limit nothing is kept

first_true : (a b : Bool) → (a && b) ≡ true → a ≡ true
first_true true b h = refl
first_true false b h = cc

second_true : (a b : Bool) → (a && b) ≡ true → b ≡ true
second_true true b h = h
second_true false b h = cc

some_extent : (s : Span) (z : ℤ) → int_le s.lower z ≡ true → int_lt z (end_of s) ≡ true → 1 ≤ s.extent
some_extent s z h k =
    let low : s.lower ≤ℤ z = record { le = subst (λ (x : Bool). T x) (sym h) tt } in
    let high : z <ℤ end_of s = record { lt = subst (λ (x : Bool). T x) (sym k) tt } in
    omega (arith, ints)

far : (e k o : ℕ) → 1 ≤ e → k ≤ o + e * k
far zero k o h = absurd (omega arith)
far (suc e) k o h = rw (times e k) (omega arith)
  where
    times : (e k : ℕ) → suc e * k ≡ k + e * k
    times e k = omega arith

pub too_far : (s : Span) (limit k : ℕ) (zs : List ℤ) → limit ≤ k → is_inside s zs ≡ true → kept limit (map (λ z. nat_abs (z -ℤ s.lower) + s.extent * k) zs) ≡ []
too_far s limit k [] h i = refl
too_far s limit k (z ∷ zs) h i =
    let low : int_le s.lower z ≡ true = first_true (int_le s.lower z) _ i in
    let more : (int_lt z (end_of s) && is_inside s zs) ≡ true = second_true (int_le s.lower z) _ i in
    let high : int_lt z (end_of s) ≡ true = first_true (int_lt z (end_of s)) _ more in
    let past : limit ≤ nat_abs (z -ℤ s.lower) + s.extent * k = omega (arith, far s.extent k (nat_abs (z -ℤ s.lower)) (some_extent s z low high)) in
    leaves limit (nat_abs (z -ℤ s.lower) + s.extent * k) (map (λ z. nat_abs (z -ℤ s.lower) + s.extent * k) zs) (le-ltb _ _ past)
    ∙ too_far s limit k zs h (second_true (int_lt z (end_of s)) _ more)

flat_kept_by : (limit : ℕ) (f : ℕ → List ℕ) → ((k : ℕ) → limit ≤ k → kept limit (f k) ≡ []) → (k : ℕ) (ks : List ℕ) → kept limit (flat_map f (kept limit ks)) ≡ kept limit (flat_map f ks)
    → (b : Bool) → nat_lt k limit ≡ b → kept limit (flat_map f (kept limit (k ∷ ks))) ≡ kept limit (flat_map f (k ∷ ks))
flat_kept_by limit f far k ks before true e = ap (λ xs. kept limit (flat_map f xs)) (keeps limit k ks e) ∙ kept_append limit (f k) (flat_map f (kept limit ks))
    ∙ ap (λ xs. kept limit (f k) ++ xs) before ∙ sym (kept_append limit (f k) (flat_map f ks))
flat_kept_by limit f far k ks before false e = ap (λ xs. kept limit (flat_map f xs)) (leaves limit k ks e) ∙ before
    ∙ sym (kept_append limit (f k) (flat_map f ks) ∙ ap (λ xs. xs ++ kept limit (flat_map f ks)) (far k (ltb-false k limit e)))

-- what is past the limit makes no row that is kept
flat_kept : (limit : ℕ) (f : ℕ → List ℕ) → ((k : ℕ) → limit ≤ k → kept limit (f k) ≡ []) → (ks : List ℕ) → kept limit (flat_map f (kept limit ks)) ≡ kept limit (flat_map f ks)
flat_kept limit f far [] = refl
flat_kept limit f far (k ∷ ks) = flat_kept_by limit f far k ks (flat_kept limit f far ks) (nat_lt k limit) refl

flat_same : (f g : ℕ → List ℕ) → ((k : ℕ) → f k ≡ g k) → (ks : List ℕ) → flat_map f ks ≡ flat_map g ks
flat_same f g e [] = refl
flat_same f g e (k ∷ ks) = ap (λ xs. xs ++ flat_map f ks) (e k) ∙ ap (λ xs. g k ++ xs) (flat_same f g e ks)

-- one dimension more
pub one_more : (s : Span) (c : Chosen) (limit : ℕ) (offsets ks : List ℕ) → offsets ≡ map (λ z. nat_abs (z -ℤ s.lower)) (subscripts_in s c) → is_inside s (subscripts_in s c) ≡ true →
    kept limit (flat_map (row_of offsets s.extent) (kept limit ks)) ≡ kept limit (flat_map (rows_of s c) ks)
one_more s c limit offsets ks e i =
    ap (kept limit) (flat_same (row_of offsets s.extent) (rows_of s c) same (kept limit ks)) ∙ flat_kept limit (rows_of s c) (λ k h. too_far s limit k (subscripts_in s c) h i) ks
  where
    same : (k : ℕ) → row_of offsets s.extent k ≡ rows_of s c k
    same k = ap (λ os. row_of os s.extent k) e ∙ map-map (λ o. o + s.extent * k) (λ z. nat_abs (z -ℤ s.lower)) (subscripts_in s c)

pub all_inside_more : (s : Span) (c : Chosen) (ss : List Span) (cs : List Chosen) → is_inside s (subscripts_in s c) ≡ true → all_inside ss cs ≡ true → all_inside (s ∷ ss) (c ∷ cs) ≡ true
all_inside_more s c ss cs i j = ap (λ b. b && all_inside ss cs) i ∙ j

pub not_inside_here : (s : Span) (c : Chosen) (ss : List Span) (cs : List Chosen) → is_inside s (subscripts_in s c) ≡ false → all_inside (s ∷ ss) (c ∷ cs) ≡ false
not_inside_here s c ss cs i = ap (λ b. b && all_inside ss cs) i

pub not_inside_behind : (s : Span) (c : Chosen) (ss : List Span) (cs : List Chosen) → all_inside ss cs ≡ false → all_inside (s ∷ ss) (c ∷ cs) ≡ false
not_inside_behind s c ss cs j = ap (λ b. is_inside s (subscripts_in s c) && b) j ∙ none (is_inside s (subscripts_in s c))
  where
    none : (b : Bool) → (b && false) ≡ false
    none true = refl
    none false = refl

pub spans_more : (s : Span) (c : Chosen) (ss : List Span) (cs : List Chosen) → spans_with c (length (subscripts_in s c)) (spans_in ss cs) ≡ spans_in (s ∷ ss) (c ∷ cs)
spans_more s (At z) ss cs = refl
spans_more s (Range lower upper step) ss cs = refl

-- ---- what is past the last number is none

pub got_past : (ns : List ℕ) (k : ℕ) → length ns ≤ k → slice_get ns k ≡ None
got_past [] k h = refl
got_past (n ∷ ns) zero h = absurd (omega arith)
got_past (n ∷ ns) (suc k) h = got_past ns k (omega arith)

numbers_by : (ns : List ℕ) (k : ℕ) (ks : List ℕ) → filter_map (slice_get ns) (kept (length ns) ks) ≡ filter_map (slice_get ns) ks → (b : Bool) → nat_lt k (length ns) ≡ b →
    filter_map (slice_get ns) (kept (length ns) (k ∷ ks)) ≡ filter_map (slice_get ns) (k ∷ ks)
numbers_by ns k ks before true e = ap (filter_map (slice_get ns)) (keeps (length ns) k ks e) ∙ ap (cons_option (slice_get ns k)) before
numbers_by ns k ks before false e = ap (filter_map (slice_get ns)) (leaves (length ns) k ks e) ∙ before
    ∙ sym (ap (λ o. cons_option o (filter_map (slice_get ns) ks)) (got_past ns k (ltb-false k (length ns) e)))

pub kept_numbers : (ns ks : List ℕ) → filter_map (slice_get ns) (kept (length ns) ks) ≡ filter_map (slice_get ns) ks
kept_numbers ns [] = refl
kept_numbers ns (k ∷ ks) = numbers_by ns k ks (kept_numbers ns ks) (nat_lt k (length ns)) refl

-- ---- numbers below a limit

below_by : (limit k : ℕ) (ks : List ℕ) → AreBelow limit (kept limit ks) → (b : Bool) → nat_lt k limit ≡ b → AreBelow limit (kept limit (k ∷ ks))
below_by limit k ks behind true e = subst (AreBelow limit) (sym (keeps limit k ks e)) (ltb-true k limit e, behind)
below_by limit k ks behind false e = subst (AreBelow limit) (sym (leaves limit k ks e)) behind

pub kept_below : (limit : ℕ) (ks : List ℕ) → AreBelow limit (kept limit ks)
kept_below limit [] = tt
kept_below limit (k ∷ ks) = below_by limit k ks (kept_below limit ks) (nat_lt k limit) refl

first_numbers : (n : ℕ) (ks : List ℕ) → AreBelow n ks → ks ≡ filter_map (slice_get (counted 0 n)) ks
first_numbers n [] h = refl
first_numbers n (k ∷ ks) h = ap (λ xs. k ∷ xs) (first_numbers n ks h.1) ∙ sym (ap (λ o. cons_option o (filter_map (slice_get (counted 0 n)) ks)) (counted_at n k h.0))

pub first_numbers_by : (ns : Numbers) (n : ℕ) (ks : List ℕ) → ns ≡ numbers.First n → AreBelow (length (numbers_of ns)) ks → ks ≡ filter_map (slice_get (numbers_of ns)) ks
first_numbers_by ns n ks e = subst (λ (x : Numbers). AreBelow (length (numbers_of x)) ks → ks ≡ filter_map (slice_get (numbers_of x)) ks) (sym e)
    (λ h. first_numbers n ks (subst (λ m. AreBelow m ks) (counted_length 0 n) h))

all_kept : (extent limit : ℕ) (os : List ℕ) → extent ≤ limit → AreBelow extent os → os ≡ kept limit (row_of os extent 0)
all_kept extent limit [] le h = refl
all_kept extent limit (o ∷ os) le h =
    let e : o + extent * 0 ≡ o = omega arith in
    ap (λ xs. o ∷ xs) (all_kept extent limit os le h.1)
    ∙ ap (λ k. k ∷ kept limit (row_of os extent 0)) (sym e)
    ∙ sym (keeps limit (o + extent * 0) (row_of os extent 0) (lt-ltb (o + extent * 0) limit (omega (arith, h.0))))

append_none : (xs : List ℕ) → xs ++ [] ≡ xs
append_none [] = refl
append_none (x ∷ xs) = ap (λ ys. x ∷ ys) (append_none xs)

-- the offsets are the places in the first row
pub first_row : (extent limit : ℕ) (os ks : List ℕ) → extent ≤ limit → AreBelow extent os → ks ≡ 0 ∷ [] → os ≡ kept limit (flat_map (row_of os extent) ks)
first_row extent limit os ks le h e = all_kept extent limit os le h
    ∙ sym (ap (λ rows. kept limit (flat_map (row_of os extent) rows)) e ∙ ap (kept limit) (append_none (row_of os extent 0)))

pub offsets_below : (s : Span) (zs : List ℤ) (os : List ℕ) → is_inside s zs ≡ true → os ≡ map (λ z. nat_abs (z -ℤ s.lower)) zs → AreBelow s.extent os
offsets_below s zs os i e = subst (AreBelow s.extent) (sym e) (all zs i)
  where
    all : (zs : List ℤ) → is_inside s zs ≡ true → AreBelow s.extent (map (λ z. nat_abs (z -ℤ s.lower)) zs)
    all [] i = tt
    all (z ∷ zs) i =
        let low : int_le s.lower z ≡ true = first_true (int_le s.lower z) _ i in
        let more : (int_lt z (end_of s) && is_inside s zs) ≡ true = second_true (int_le s.lower z) _ i in
        (below_extent s z (ap (λ b. b && int_lt z (end_of s)) low ∙ first_true (int_lt z (end_of s)) _ more), all zs (second_true (int_lt z (end_of s)) _ more))
