-- Laws on trees.
use Rattle.std.proofs.Common.{zero, suc, ◌≡◌, ℕ, ℤ, pos, ◌+◌, ◌*◌, ◌<◌, ◌≤◌, ◌⊎◌, inl, inr, cond, true, false, Bool, ◌&&◌, ◌||◌, nat_eq, List, [], ◌∷◌, ◌++◌, length, refl, ap, sym, ◌∙◌, arith, append_assoc, length-append}
use Rattle.f3_live_blocks.specs.Blocks.{Live}
use Rattle.f3_desc.specs.Shape.{Shape, Nothing, Plain, Holder, Both, Times, width, has_holder}
use Rattle.f3_objects.specs.Tree.{Tree, End, Word, Unallocated, Allocated, ◌⊕◌, words, times, Value, Nil, Number, Absent, Present, value, Joins, Repeats, IsHolder, unallocated, allocated, Fits, IsBare}
use Rattle.f3_objects.specs.Holds.{Held, is_free, left}
use Rattle.std.proofs.lemmas.Bool.{eq-eqb}

pub append-End : (t : Tree) → t ⊕ End ≡ t
append-End End = refl
append-End (Word w t) = ap (Word w) (append-End t)
append-End (Unallocated d t) = ap (Unallocated d) (append-End t)
append-End (Allocated b d c t) = ap (Allocated b d c) (append-End t)

pub append-append : (t u v : Tree) → (t ⊕ u) ⊕ v ≡ t ⊕ (u ⊕ v)
append-append End u v = refl
append-append (Word w t) u v = ap (Word w) (append-append t u v)
append-append (Unallocated d t) u v = ap (Unallocated d) (append-append t u v)
append-append (Allocated b d c t) u v = ap (Allocated b d c) (append-append t u v)

pub words-append : (t u : Tree) → words (t ⊕ u) ≡ words t ++ words u
words-append End u = refl
words-append (Word w t) u = ap (λ (l : List ℤ). w ∷ l) (words-append t u)
words-append (Unallocated d t) u = ap (λ (l : List ℤ). pos 0 ∷ (d ++ l)) (words-append t u) ∙ ap (λ (l : List ℤ). pos 0 ∷ l) (sym (append_assoc d (words t) (words u)))
words-append (Allocated b d c t) u = ap (λ (l : List ℤ). pos b ∷ (d ++ l)) (words-append t u) ∙ ap (λ (l : List ℤ). pos b ∷ l) (sym (append_assoc d (words t) (words u)))

pub size-append : (t u : Tree) → length (words (t ⊕ u)) ≡ length (words t) + length (words u)
size-append t u = ap length (words-append t u) ∙ length-append (words t) (words u)

pub times-append : (q : ℕ) (t u : Tree) → times q (t ⊕ u) ≡ times q t + times q u
times-append q End u = omega arith
times-append q (Word w t) u = times-append q t u
times-append q (Unallocated d t) u = times-append q t u
times-append q (Allocated b d c t) u = let h = times-append q t u in omega arith

pub held_front : (m : Live) (t u : Tree) → Held m (t ⊕ u) → Held m t
held_front m End u h = tt
held_front m (Word w t) u h = held_front m t u h
held_front m (Unallocated d t) u h = held_front m t u h
held_front m (Allocated b d c t) u h = (h.0, h.1, h.2, held_front m t u h.3, h.4)

pub held_back : (m : Live) (t u : Tree) → Held m (t ⊕ u) → Held m u
held_back m End u h = h
held_back m (Word w t) u h = held_back m t u h
held_back m (Unallocated d t) u h = held_back m t u h
held_back m (Allocated b d c t) u h = held_back m t u h.3

pub held_both : (m : Live) (t u : Tree) → Held m t → Held m u → Held m (t ⊕ u)
held_both m End u h k = k
held_both m (Word w t) u h k = held_both m t u h k
held_both m (Unallocated d t) u h k = held_both m t u h k
held_both m (Allocated b d c t) u h k = (h.0, h.1, h.2, held_both m t u h.3 k, h.4)

-- a Value behind another
infixr 5 ◌⊞◌
abbrev pub ◌⊞◌ : Value → Value → Value
Nil ⊞ u = u
Number w t ⊞ u = Number w (t ⊞ u)
Absent t ⊞ u = Absent (t ⊞ u)
Present d c t ⊞ u = Present d c (t ⊞ u)

pub value-append : (t u : Tree) → value (t ⊕ u) ≡ value t ⊞ value u
value-append End u = refl
value-append (Word w t) u = ap (Number w) (value-append t u)
value-append (Unallocated d t) u = ap Absent (value-append t u)
value-append (Allocated b d c t) u = ap (Present d (value c)) (value-append t u)

and_assoc : (a b c : Bool) → (a && (b && c)) ≡ ((a && b) && c)
and_assoc true b c = refl
and_assoc false b c = refl

pub is_free-append : (p : ℕ → ℕ) (t u : Tree) → is_free p (t ⊕ u) ≡ (is_free p t && is_free p u)
is_free-append p End u = refl
is_free-append p (Word w t) u = is_free-append p t u
is_free-append p (Unallocated d t) u = is_free-append p t u
is_free-append p (Allocated b d c t) u = ap (λ (x : Bool). (nat_eq (p b) 0 && is_free p c) && x) (is_free-append p t u) ∙ and_assoc (nat_eq (p b) 0 && is_free p c) (is_free p t) (is_free p u)

pub zero_or_more : (n : ℕ) → (n ≡ 0) ⊎ (0 < n)
zero_or_more zero = inl refl
zero_or_more (suc n) = inr (omega arith)

pub times_own : (b : ℕ) (d : List ℤ) (c t : Tree) → 0 < times b (Allocated b d c t)
times_own b d c t = rw (eq-eqb b b refl) (omega arith)

-- a tree with P n times over has the words of that
joined_size : (P Q : Tree → Type 0) (a b : ℕ) → ((t : Tree) → P t → length (words t) ≡ a) → ((t : Tree) → Q t → length (words t) ≡ b) → (t : Tree) → Joins P Q t → length (words t) ≡ a + b
joined_size P Q a b p q t j =
    let e : length (words t) ≡ length (words j.front) + length (words j.back) = ap (λ (x : Tree). length (words x)) j.split ∙ size-append j.front j.back in
    let f = p j.front j.first in
    let g = q j.back j.second in
    omega arith

repeated_size : (n : ℕ) (P : Tree → Type 0) (a : ℕ) → ((t : Tree) → P t → length (words t) ≡ a) → (t : Tree) → Repeats n P t → length (words t) ≡ n * a
repeated_size zero P a p t e = ap (λ (x : Tree). length (words x)) e ∙ omega arith
repeated_size (suc n) P a p t j = joined_size P (Repeats n P) a (n * a) p (repeated_size n P a p) t j ∙ omega arith

holder_size : (rank : ℕ) (P : Tree → Type 0) (t : Tree) → IsHolder rank P t → length (words t) ≡ 1 + 2 * rank
holder_size rank P t (unallocated d e) = let h = length-append d [] in omega (arith, e)
holder_size rank P t (allocated b d c e r) = let h = length-append d [] in omega (arith, e)

pub size-fits : (s : Shape) (t : Tree) → Fits s t → length (words t) ≡ width s
size-fits Nothing t e = ap (λ (x : Tree). length (words x)) e
size-fits Plain t h = ap (λ (x : Tree). length (words x)) h.1
size-fits (Holder rank of) t h = holder_size rank (Fits of) t h
size-fits (Both s r) t j = joined_size (Fits s) (Fits r) (width s) (width r) (size-fits s) (size-fits r) t j
size-fits (Times n s) t j = repeated_size n (Fits s) (width s) (size-fits s) t j

pub size-times : (n : ℕ) (s : Shape) (t : Tree) → Repeats n (Fits s) t → length (words t) ≡ n * width s
size-times n s t j = size-fits (Times n s) t j

-- n trees and one more behind them
repeats_push : (n : ℕ) (P : Tree → Type 0) (t u : Tree) → Repeats n P t → P u → Repeats (suc n) P (t ⊕ u)
repeats_push zero P t u e p = record { front = u; back = End; split = ap (λ (x : Tree). x ⊕ u) e ∙ sym (append-End u); first = p; second = refl }
repeats_push (suc n) P t u j p = record {
  front = j.front;
  back = j.back ⊕ u;
  split = ap (λ (x : Tree). x ⊕ u) j.split ∙ append-append j.front j.back u;
  first = j.first;
  second = repeats_push n P j.back u j.second p;
}

joined_bare : (P Q : Tree → Type 0) → ((t : Tree) → P t → IsBare t) → ((t : Tree) → Q t → IsBare t) → (t : Tree) → Joins P Q t → IsBare t
joined_bare P Q p q t j x =
    let e : times x t ≡ times x j.front + times x j.back = ap (times x) j.split ∙ times-append x j.front j.back in
    let f = p j.front j.first x in
    let g = q j.back j.second x in
    omega arith

repeated_bare : (n : ℕ) (P : Tree → Type 0) → ((t : Tree) → P t → IsBare t) → (t : Tree) → Repeats n P t → IsBare t
repeated_bare zero P p t e x = ap (times x) e
repeated_bare (suc n) P p t j x = joined_bare P (Repeats n P) p (repeated_bare n P p) t j x

or_false_left : (a b : Bool) → (a || b) ≡ false → a ≡ false
or_false_left true b e = e
or_false_left false b e = refl

or_false_right : (a b : Bool) → (a || b) ≡ false → b ≡ false
or_false_right true b e = cc
or_false_right false b e = e

-- where no word tells of an allocation, there is none
pub plain-bare : (s : Shape) → has_holder s ≡ false → (t : Tree) → Fits s t → IsBare t
plain-bare Nothing e t f q = ap (times q) f
plain-bare Plain e t f q = ap (times q) f.1
plain-bare (Holder rank of) e t f q = cc
plain-bare (Both s r) e t j q = joined_bare (Fits s) (Fits r) (plain-bare s (or_false_left _ _ e)) (plain-bare r (or_false_right _ _ e)) t j q
plain-bare (Times zero s) e t j q = ap (times q) j
plain-bare (Times (suc n) s) e t j q = repeated_bare (suc n) (Fits s) (plain-bare s e) t j q

positive_or : (a b : Bool) (m n : ℕ) → (a ≡ true → 0 < m) → (b ≡ true → 0 < n) → (a || b) ≡ true → 0 < m + n
positive_or true b m n f g e = let h = f refl in omega arith
positive_or false b m n f g e = let h = g e in omega arith

-- what tells of an allocation has words
pub holder-positive : (s : Shape) → has_holder s ≡ true → 0 < width s
holder-positive Nothing e = cc
holder-positive Plain e = cc
holder-positive (Holder rank of) e = omega arith
holder-positive (Both s r) e = positive_or (has_holder s) (has_holder r) (width s) (width r) (holder-positive s) (holder-positive r) e
holder-positive (Times zero s) e = cc
holder-positive (Times (suc n) s) e = let h = holder-positive s e in omega arith

not_bare : (b : ℕ) (d : List ℤ) (c t : Tree) → IsBare (Allocated b d c t) → ⊥
not_bare b d c t h = let e = h b in let p = times_own b d c t in omega arith

-- where no block stands beneath, nothing is given
pub left-bare : (p : ℕ → ℕ) (t : Tree) → IsBare t → left p t ≡ t
left-bare p End h = refl
left-bare p (Word w t) h = ap (Word w) (left-bare p t h)
left-bare p (Unallocated d t) h = ap (Unallocated d) (left-bare p t h)
left-bare p (Allocated b d c t) h = absurd (not_bare b d c t h)

pub is_free-bare : (p : ℕ → ℕ) (t : Tree) → IsBare t → is_free p t ≡ true
is_free-bare p End h = refl
is_free-bare p (Word w t) h = is_free-bare p t h
is_free-bare p (Unallocated d t) h = is_free-bare p t h
is_free-bare p (Allocated b d c t) h = absurd (not_bare b d c t h)

-- what comes behind is given only where what stands before it is free
pub left-append : (p : ℕ → ℕ) (t u : Tree) → left p (t ⊕ u) ≡ left p t ⊕ cond (is_free p t) (left p u) u
left-append p End u = refl
left-append p (Word w t) u = ap (Word w) (left-append p t u)
left-append p (Unallocated d t) u = ap (Unallocated d) (left-append p t u)
left-append p (Allocated b d c t) u =
    elim (nat_eq (p b) 0) as (λ k. cond k (cond (is_free p c) (Unallocated d (left p (t ⊕ u))) (Allocated b d (left p c) (t ⊕ u))) (Allocated b d c (t ⊕ u)) ≡ cond k (cond (is_free p c) (Unallocated d (left p t)) (Allocated b d (left p c) t)) (Allocated b d c t) ⊕ cond ((k && is_free p c) && is_free p t) (left p u) u) [
      | true ↦ elim (is_free p c) as (λ k. cond k (Unallocated d (left p (t ⊕ u))) (Allocated b d (left p c) (t ⊕ u)) ≡ cond k (Unallocated d (left p t)) (Allocated b d (left p c) t) ⊕ cond (k && is_free p t) (left p u) u) [
        | true ↦ ap (Unallocated d) (left-append p t u)
        | false ↦ refl
      ]
      | false ↦ refl
    ]

-- the holder's words alone change
pub size-left : (p : ℕ → ℕ) (t : Tree) → length (words (left p t)) ≡ length (words t)
size-left p End = refl
size-left p (Word w t) = ap suc (size-left p t)
size-left p (Unallocated d t) = ap suc (length-append d (words (left p t)) ∙ ap (λ (n : ℕ). length d + n) (size-left p t) ∙ sym (length-append d (words t)))
size-left p (Allocated b d c t) =
    elim (nat_eq (p b) 0) as (λ k. length (words (cond k (cond (is_free p c) (Unallocated d (left p t)) (Allocated b d (left p c) t)) (Allocated b d c t))) ≡ suc (length (d ++ words t))) [
      | true ↦ elim (is_free p c) as (λ k. length (words (cond k (Unallocated d (left p t)) (Allocated b d (left p c) t))) ≡ suc (length (d ++ words t))) [
        | true ↦ ap suc (length-append d (words (left p t)) ∙ ap (λ (n : ℕ). length d + n) (size-left p t) ∙ sym (length-append d (words t)))
        | false ↦ refl
      ]
      | false ↦ refl
    ]

pub times-left : (p : ℕ → ℕ) (q : ℕ) (t : Tree) → times q (left p t) ≤ times q t
times-left p q End = omega arith
times-left p q (Word w t) = times-left p q t
times-left p q (Unallocated d t) = times-left p q t
times-left p q (Allocated b d c t) =
    let x = times-left p q t in
    let y = times-left p q c in
    elim (nat_eq (p b) 0) as (λ k. times q (cond k (cond (is_free p c) (Unallocated d (left p t)) (Allocated b d (left p c) t)) (Allocated b d c t)) ≤ cond (nat_eq q b) 1 0 + (times q c + times q t)) [
      | true ↦ elim (is_free p c) as (λ k. times q (cond k (Unallocated d (left p t)) (Allocated b d (left p c) t)) ≤ cond (nat_eq q b) 1 0 + (times q c + times q t)) [
        | true ↦ omega arith
        | false ↦ omega arith
      ]
      | false ↦ omega arith
    ]

and_left : (a b : Bool) → (a && b) ≡ true → a ≡ true
and_left true b e = refl
and_left false b e = e

and_right : (a b : Bool) → (a && b) ≡ true → b ≡ true
and_right true b e = e
and_right false b e = cc

-- where nothing is pinned, every block is given
pub free-left : (p : ℕ → ℕ) (t : Tree) → is_free p t ≡ true → IsBare (left p t)
free-left p End e q = refl
free-left p (Word w t) e q = free-left p t e q
free-left p (Unallocated d t) e q = free-left p t e q
free-left p (Allocated b d c t) e q =
    let k = and_left (nat_eq (p b) 0 && is_free p c) (is_free p t) e in
    let f = and_left (nat_eq (p b) 0) (is_free p c) k in
    let g = and_right (nat_eq (p b) 0) (is_free p c) k in
    rw (f, g) (free-left p t (and_right (nat_eq (p b) 0 && is_free p c) (is_free p t) e) q)
