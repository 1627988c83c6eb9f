-- Subscripts, one behind another.
use Rattle.std.proofs.Common.{◌≡◌, ◌≢◌, ℕ, zero, suc, ◌+◌, ◌-◌, ◌*◌, ◌/◌, ◌<◌, ◌≤◌, ℤ, pos, negsuc, unsigned_abs, Bool, true, false, ◌⊎◌, inl, inr, T, List, [], ◌∷◌, ◌++◌, refl, sym, ap, subst, ◌∙◌, arith, map, append_assoc, ◌&&◌}
use Rattle.std.proofs.lemmas.Int.{ints}
use Rattle.std.specs.Prelude.{◌+ℤ◌, ◌-ℤ◌, ◌<ℤ◌, ◌≤ℤ◌, int_le, int_lt, nat_abs}
use Rattle.f3_arithmetic.proofs.Distances.{downward}
use Rattle.f3_meaning_whole.specs.Value.{Span}
use Rattle.f3_meaning_whole.specs.Arithmetic.{trips}
use Rattle.f3_meaning_whole.specs.Act.{end_of, stepped, is_inside}
use Rattle.f3_object_steps.specs.declared.subscripts.Walk.{Walk}
use Rattle.f3_object_steps.specs.Walks.{subscripts_of, subscripts_from}

pub downwards : (l u s : ℤ) → s <ℤ pos 0 → u ≤ℤ l → suc (unsigned_abs (u -ℤ l) / unsigned_abs s) ≡ trips l u s
downwards l u s down le = downward l u s (λ e. omega (arith, ints)) (λ up. omega (arith, ints)) le

pub stepped_more : (left : ℕ) (z step : ℤ) → 0 < left → stepped left z step ≡ z ∷ stepped (left - 1) (z +ℤ step) step
stepped_more zero z step h = absurd (omega arith)
stepped_more (suc k) z step h = ap (λ n. z ∷ stepped n (z +ℤ step) step) (omega arith)

not_both : (a b c : Bool) → (a && b) ≡ false → (a && (b && c)) ≡ false
not_both true true c h = cc
not_both true false c h = refl
not_both false b c h = refl

-- one of them is outside
pub outside : (s : Span) (w : Walk) → 0 < w.left → (int_le s.lower w.next && int_lt w.next (end_of s)) ≡ false → is_inside s (subscripts_of w) ≡ false
outside s w h t = ap (is_inside s) (stepped_more w.left w.next w.step h) ∙ not_both (int_le s.lower w.next) (int_lt w.next (end_of s)) (is_inside s (stepped (w.left - 1) (w.next +ℤ w.step) w.step)) t

pub none_left : (w : Walk) → w.left ≡ 0 → subscripts_of w ≡ []
none_left w e = ap (λ n. stepped n w.next w.step) e

-- ---- from one subscript that is inside to the next

inside_by : (a b c : Bool) → a ≡ true → b ≡ true → (a && (b && c)) ≡ c
inside_by true true c h k = refl
inside_by true false c h k = cc
inside_by false b c h k = cc

outside_by : (a b c : Bool) → a ≡ false ⊎ b ≡ false → (a && (b && c)) ≡ false
outside_by false b c h = refl
outside_by true false c h = refl
outside_by true true c (inl h) = cc
outside_by true true c (inr h) = cc

is_true : (b : Bool) → T b → b ≡ true
is_true true h = refl
is_true false h = absurd h

is_false : (b : Bool) → (T b → ⊥) → b ≡ false
is_false true h = absurd (h tt)
is_false false h = refl

true_of_le : (x y : ℤ) → x ≤ℤ y → int_le x y ≡ true
true_of_le x y h = is_true (int_le x y) h.le

true_of_lt : (x y : ℤ) → x <ℤ y → int_lt x y ≡ true
true_of_lt x y h = is_true (int_lt x y) h.lt

false_of_le : (x y : ℤ) → y <ℤ x → int_le x y ≡ false
false_of_le x y h = is_false (int_le x y) (λ t. let k : x ≤ℤ y = record { le = t } in absurd (omega (arith, ints)))

false_of_lt : (x y : ℤ) → y ≤ℤ x → int_lt x y ≡ false
false_of_lt x y h = is_false (int_lt x y) (λ t. let k : x <ℤ y = record { lt = t } in absurd (omega (arith, ints)))

le_of_true : (x y : ℤ) → int_le x y ≡ true → x ≤ℤ y
le_of_true x y h = record { le = subst (λ (b : Bool). T b) (sym h) tt }

lt_of_true : (x y : ℤ) → int_lt x y ≡ true → x <ℤ y
lt_of_true x y h = record { lt = subst (λ (b : Bool). T b) (sym h) tt }

first_true : (a b : Bool) → (a && b) ≡ true → a ≡ true
first_true true b h = refl
first_true false b h = cc

second_true : (a b : Bool) → (a && b) ≡ true → b ≡ true
second_true true b h = h
second_true false b h = cc

low : (lower : ℤ) (o : ℕ) → int_le lower (lower +ℤ pos o) ≡ true
low lower o = true_of_le lower (lower +ℤ pos o) (omega (arith, ints))

high : (s : Span) (o : ℕ) → o < s.extent → int_lt (s.lower +ℤ pos o) (end_of s) ≡ true
high s o h = true_of_lt (s.lower +ℤ pos o) (end_of s) (omega (arith, ints))

next_is : (lower step : ℤ) (o n : ℕ) → pos n ≡ pos o +ℤ step → lower +ℤ pos o +ℤ step ≡ lower +ℤ pos n
next_is lower step o n e = omega (arith, ints)

from_more : (lower step : ℤ) (o n left : ℕ) → 0 < left → pos n ≡ pos o +ℤ step → subscripts_from lower o left step ≡ (lower +ℤ pos o) ∷ subscripts_from lower n (left - 1) step
from_more lower step o n zero h e = absurd (omega arith)
from_more lower step o n (suc k) h e =
    let one : k ≡ suc k - 1 = omega arith in
    ap (λ z. (lower +ℤ pos o) ∷ stepped (suc k) z step) (next_is lower step o n e) ∙ ap (λ i. (lower +ℤ pos o) ∷ stepped (suc i) (lower +ℤ pos n) step) one

pub inside_behind : (s : Span) (step : ℤ) (o n left : ℕ) → o < s.extent → 0 < left → pos n ≡ pos o +ℤ step →
    is_inside s (subscripts_from s.lower n (left - 1) step) ≡ is_inside s (subscripts_from s.lower o left step)
inside_behind s step o n left i h e =
    sym (ap (is_inside s) (from_more s.lower step o n left h e)
    ∙ inside_by (int_le s.lower (s.lower +ℤ pos o)) (int_lt (s.lower +ℤ pos o) (end_of s)) (is_inside s (subscripts_from s.lower n (left - 1) step)) (low s.lower o) (high s o i))

not_there : (s : Span) (step : ℤ) (o : ℕ) → ((pos o +ℤ step) <ℤ pos 0) ⊎ (pos s.extent ≤ℤ (pos o +ℤ step)) →
    (int_le s.lower (s.lower +ℤ pos o +ℤ step) ≡ false) ⊎ (int_lt (s.lower +ℤ pos o +ℤ step) (end_of s) ≡ false)
not_there s step o (inl h) = inl (false_of_le s.lower (s.lower +ℤ pos o +ℤ step) (omega (arith, ints)))
not_there s step o (inr h) = inr (false_of_lt (s.lower +ℤ pos o +ℤ step) (end_of s) (omega (arith, ints)))

pub outside_behind : (s : Span) (step : ℤ) (o left : ℕ) → o < s.extent → 0 < left → ((pos o +ℤ step) <ℤ pos 0) ⊎ (pos s.extent ≤ℤ (pos o +ℤ step)) →
    is_inside s (subscripts_from s.lower o left step) ≡ false
outside_behind s step o zero i h out = absurd (omega arith)
outside_behind s step o (suc k) i h out =
    inside_by (int_le s.lower (s.lower +ℤ pos o)) (int_lt (s.lower +ℤ pos o) (end_of s)) (is_inside s (stepped (suc k) (s.lower +ℤ pos o +ℤ step) step)) (low s.lower o) (high s o i)
    ∙ outside_by (int_le s.lower (s.lower +ℤ pos o +ℤ step)) (int_lt (s.lower +ℤ pos o +ℤ step) (end_of s)) (is_inside s (stepped k (s.lower +ℤ pos o +ℤ step +ℤ step) step)) (not_there s step o out)

pub last_inside : (s : Span) (step : ℤ) (o : ℕ) → o < s.extent → is_inside s (subscripts_from s.lower o 0 step) ≡ true
last_inside s step o i = inside_by (int_le s.lower (s.lower +ℤ pos o)) (int_lt (s.lower +ℤ pos o) (end_of s)) true (low s.lower o) (high s o i)

distance : (lower : ℤ) (o : ℕ) → nat_abs (lower +ℤ pos o -ℤ lower) ≡ o
distance lower o = let e : lower +ℤ pos o -ℤ lower ≡ pos o = omega (arith, ints) in ap nat_abs e

pub last_offset : (lower step : ℤ) (o : ℕ) → map (λ z. nat_abs (z -ℤ lower)) (subscripts_from lower o 0 step) ≡ o ∷ []
last_offset lower step o = ap (λ n. n ∷ []) (distance lower o)

pub offsets_behind : (lower step : ℤ) (o n left : ℕ) (xs : List ℕ) → 0 < left → pos n ≡ pos o +ℤ step →
    (xs ++ o ∷ []) ++ map (λ z. nat_abs (z -ℤ lower)) (subscripts_from lower n (left - 1) step) ≡ xs ++ map (λ z. nat_abs (z -ℤ lower)) (subscripts_from lower o left step)
offsets_behind lower step o n left xs h e =
    append_assoc xs (o ∷ []) (map (λ z. nat_abs (z -ℤ lower)) (subscripts_from lower n (left - 1) step))
    ∙ ap (λ m. xs ++ m ∷ map (λ z. nat_abs (z -ℤ lower)) (subscripts_from lower n (left - 1) step)) (sym (distance lower o))
    ∙ sym (ap (λ zs. xs ++ map (λ z. nat_abs (z -ℤ lower)) zs) (from_more lower step o n left h e))

-- ---- from the first to a last that is inside, or is not

pub up_is : (step : ℤ) → pos 0 ≤ℤ step → step ≡ pos (unsigned_abs step)
up_is (pos n) h = refl
up_is (negsuc n) h = absurd (omega (arith, ints))

down_is : (step : ℤ) → step <ℤ pos 0 → pos (unsigned_abs step) +ℤ step ≡ pos 0
down_is (pos n) h = absurd (omega (arith, ints))
down_is (negsuc n) h = omega (arith, ints)

pub up_within : (o d left e : ℕ) → 0 < left → o + left * d < e → o + d < e
up_within o d zero e h l = absurd (omega arith)
up_within o d (suc k) e h l = omega arith

pub up_next : (o d left e : ℕ) → 0 < left → o + left * d < e → (o + d) + (left - 1) * d < e
up_next o d zero e h l = absurd (omega arith)
up_next o d (suc k) e h l = let one : suc k - 1 ≡ k = omega arith in rw one (omega arith)

pub down_within : (o d left : ℕ) → 0 < left → left * d ≤ o → d ≤ o
down_within o d zero h l = absurd (omega arith)
down_within o d (suc k) h l = omega arith

pub down_next : (o d left : ℕ) → 0 < left → left * d ≤ o → (left - 1) * d ≤ o - d
down_next o d zero h l = absurd (omega arith)
down_next o d (suc k) h l = let one : suc k - 1 ≡ k = omega arith in rw one (omega arith)

pub up_behind : (step : ℤ) (o : ℕ) → pos 0 ≤ℤ step → pos (o + unsigned_abs step) ≡ pos o +ℤ step
up_behind step o h = let e = up_is step h in omega (arith, ints)

pub down_behind : (step : ℤ) (o : ℕ) → step <ℤ pos 0 → unsigned_abs step ≤ o → pos (o - unsigned_abs step) ≡ pos o +ℤ step
down_behind step o h l = let e = down_is step h in omega (arith, ints)

before_or : (k n : ℕ) → (k < n) ⊎ (n ≤ k)
before_or zero zero = inr (omega arith)
before_or zero (suc n) = inl (omega arith)
before_or (suc k) zero = inr (omega arith)
before_or (suc k) (suc n) = elim (before_or k n) [ inl l ↦ inl (omega arith) | inr l ↦ inr (omega arith) ]

pub past_up : (s : Span) (step : ℤ) (o left : ℕ) → pos 0 ≤ℤ step → o < s.extent → s.extent ≤ o + left * unsigned_abs step →
    is_inside s (subscripts_from s.lower o left step) ≡ false
past_up s step o zero u i h = absurd (omega arith)
past_up s step o (suc k) u i h = elim (before_or (o + unsigned_abs step) s.extent) [
  | inl l ↦
      let one : suc k - 1 ≡ k = omega arith in
      sym (inside_behind s step o (o + unsigned_abs step) (suc k) i (omega arith) (up_behind step o u))
      ∙ ap (λ n. is_inside s (subscripts_from s.lower (o + unsigned_abs step) n step)) one
      ∙ past_up s step (o + unsigned_abs step) k u l (omega arith)
  | inr l ↦ let e = up_is step u in outside_behind s step o (suc k) i (omega arith) (inr (omega (arith, ints)))
]

pub past_down : (s : Span) (step : ℤ) (o left : ℕ) → step <ℤ pos 0 → o < s.extent → o < left * unsigned_abs step →
    is_inside s (subscripts_from s.lower o left step) ≡ false
past_down s step o zero u i h = absurd (omega arith)
past_down s step o (suc k) u i h = elim (before_or o (unsigned_abs step)) [
  | inl l ↦ let e = down_is step u in outside_behind s step o (suc k) i (omega arith) (inl (omega (arith, ints)))
  | inr l ↦
      let one : suc k - 1 ≡ k = omega arith in
      sym (inside_behind s step o (o - unsigned_abs step) (suc k) i (omega arith) (down_behind step o u l))
      ∙ ap (λ n. is_inside s (subscripts_from s.lower (o - unsigned_abs step) n step)) one
      ∙ past_down s step (o - unsigned_abs step) k u (omega arith) (omega arith)
]

-- as far as all that are inside reach, and farther
pub past_all : (s : Span) (step : ℤ) (o left : ℕ) → o < s.extent → s.extent ≤ left * unsigned_abs step →
    is_inside s (subscripts_from s.lower o left step) ≡ false
past_all s (pos n) o left i h = past_up s (pos n) o left (omega (arith, ints)) i (omega arith)
past_all s (negsuc n) o left i h = past_down s (negsuc n) o left (omega (arith, ints)) i (omega arith)

each_one : (left d : ℕ) → 0 < d → left ≤ left * d
each_one zero d h = omega arith
each_one (suc k) d h = let e = each_one k d h in omega arith

moves_by : (step : ℤ) → step ≢ pos 0 → 0 < unsigned_abs step
moves_by (pos zero) h = absurd (h refl)
moves_by (pos (suc n)) h = omega arith
moves_by (negsuc n) h = omega arith

pub past_many : (s : Span) (step : ℤ) (o left : ℕ) → step ≢ pos 0 → o < s.extent → s.extent ≤ left →
    is_inside s (subscripts_from s.lower o left step) ≡ false
past_many s step o left m i h =
    let e = each_one left (unsigned_abs step) (moves_by step m) in past_all s step o left i (omega arith)

-- ---- the first that is inside, and those behind it
absolute : (d : ℤ) → pos 0 ≤ℤ d → d ≡ pos (nat_abs d)
absolute (pos n) h = refl
absolute (negsuc n) h = absurd (omega (arith, ints))

at_offset : (lower z : ℤ) → lower ≤ℤ z → z ≡ lower +ℤ pos (nat_abs (z -ℤ lower))
at_offset lower z h =
    let e : z -ℤ lower ≡ pos (nat_abs (z -ℤ lower)) = absolute (z -ℤ lower) (omega (arith, ints)) in
    omega (arith, ints)

pub below_extent : (s : Span) (z : ℤ) → (int_le s.lower z && int_lt z (end_of s)) ≡ true → nat_abs (z -ℤ s.lower) < s.extent
below_extent s z t =
    let from : s.lower ≤ℤ z = le_of_true s.lower z (first_true (int_le s.lower z) (int_lt z (end_of s)) t) in
    let to : z <ℤ end_of s = lt_of_true z (end_of s) (second_true (int_le s.lower z) (int_lt z (end_of s)) t) in
    let e : z ≡ s.lower +ℤ pos (nat_abs (z -ℤ s.lower)) = at_offset s.lower z from in
    omega (arith, ints)

pub first_inside : (s : Span) (w : Walk) (o : ℕ) → (int_le s.lower w.next && int_lt w.next (end_of s)) ≡ true → o ≡ nat_abs (w.next -ℤ s.lower) → o < s.extent
first_inside s w o t e = let h = below_extent s w.next t in omega arith

pub from_first : (s : Span) (w : Walk) (o : ℕ) → w.left ≢ 0 → (int_le s.lower w.next && int_lt w.next (end_of s)) ≡ true → o ≡ nat_abs (w.next -ℤ s.lower) →
    subscripts_from s.lower o (w.left - 1) w.step ≡ subscripts_of w
from_first s w o h t e =
    let from : s.lower ≤ℤ w.next = le_of_true s.lower w.next (first_true (int_le s.lower w.next) (int_lt w.next (end_of s)) t) in
    let all : suc (w.left - 1) ≡ w.left = omega arith in
    ap (λ k. stepped (suc (w.left - 1)) (s.lower +ℤ pos k) w.step) e
    ∙ ap (λ z. stepped (suc (w.left - 1)) z w.step) (sym (at_offset s.lower w.next from))
    ∙ ap (λ k. stepped k w.next w.step) all
