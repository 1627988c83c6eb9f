-- Laws on giving back what stands beneath parts one after another.
use Rattle.std.proofs.Common.{zero, suc, ◌≡◌, ◌≢◌, ℕ, ◌+◌, ◌-◌, ◌*◌, ◌<◌, ◌≤◌, inl, inr, cond, true, false, Bool, ◌&&◌, nat_eq, List, length, map, drop, get_or, ◌/◌, refl, ap, sym, subst, ◌∙◌, arith}
use Rattle.std.specs.FinMap.{get}
use Rattle.f3_live_blocks.specs.Blocks.{Live, words_of, pins_of}
use Rattle.f3_desc.specs.Shape.{Shape, Times, row, shape_at, width, has_holder}
use Rattle.f3_objects.specs.Tree.{Tree, End, Word, Unallocated, Allocated, ◌⊕◌, words, times, Joins, Repeats, Fits}
use Rattle.f3_objects.specs.Holds.{Stands, Holds, IsContents, Replaces, Frees, NonePinned, is_free, left}
use Rattle.f3_objects.proofs.Trees.{append-End, append-append, size-append, times-append, times_own, zero_or_more, is_free-append, left-append, size-left, times-left, free-left, size-fits, plain-bare}
use Rattle.f3_objects.proofs.Holders.{frees_bare, own_or_other}
use Rattle.std.proofs.lemmas.Bool.{eqb-true, eq-eqb, and_parts}
use Rattle.std.specs.Prelude.{None, ◌↔◌, Result, Ok, Err, OnOk, is_ok}
use Rattle.std.proofs.lemmas.List.{drop_more, drop_all}
use Rattle.std.proofs.Math.Nat.{mul-div_cancel}
use Rattle.f3_objects.proofs.Changes.{same_pins, stands_front, stands_behind, replaces_same, replaces_beside}

-- only the pins of the blocks beneath matter
pub is_free-same : (p p' : ℕ → ℕ) (t : Tree) → ((q : ℕ) → 0 < times q t → p q ≡ p' q) → is_free p t ≡ is_free p' t
is_free-same p p' End f = refl
is_free-same p p' (Word w t) f = is_free-same p p' t f
is_free-same p p' (Unallocated d t) f = is_free-same p p' t f
is_free-same p p' (Allocated b d c t) f =
    let own = f b (times_own b d c t) in
    let x = is_free-same p p' c (λ q l. f q (omega arith)) in
    let y = is_free-same p p' t (λ q l. f q (omega arith)) in
    rw (own, x, y) refl

pub left-same : (p p' : ℕ → ℕ) (t : Tree) → ((q : ℕ) → 0 < times q t → p q ≡ p' q) → left p t ≡ left p' t
left-same p p' End f = refl
left-same p p' (Word w t) f = ap (Word w) (left-same p p' t f)
left-same p p' (Unallocated d t) f = ap (Unallocated d) (left-same p p' t f)
left-same p p' (Allocated b d c t) f =
    let own = f b (times_own b d c t) in
    let x = is_free-same p p' c (λ q l. f q (omega arith)) in
    let y = left-same p p' c (λ q l. f q (omega arith)) in
    let z = left-same p p' t (λ q l. f q (omega arith)) in
    rw (own, x, y, z) refl

-- the first part could not all be given, so the rest stays
pub frees_stop : (old new : Live) (block at : ℕ) (t u : Tree) → Stands old block at (t ⊕ u) → Frees old new block at t false → Frees old new block at (t ⊕ u) false
frees_stop old new block at t u s f =
    let p = pins_of old in
    let stuck : is_free p t ≡ false = sym f.answered in
    let behind = stands_behind old new block at t u (left p t) s (size-left p t) f.replaced in
    let both = replaces_beside old new new block at t u (left p t) u s (size-left p t) f.replaced (replaces_same new block (at + length (words t)) u behind) (λ q a b. absurd (omega arith)) in
    let same : left p (t ⊕ u) ≡ left p t ⊕ u = left-append p t u ∙ ap (λ (k : Bool). left p t ⊕ cond k (left p u) u) stuck in
    record {
      replaced = let P : Tree → Type 0 = λ x. Replaces old new block at (t ⊕ u) x in subst P (sym same) both;
      answered = sym (is_free-append p t u ∙ ap (λ (k : Bool). k && is_free p u) stuck);
    }

-- the first part was all given, and then the second as far as it could
pub frees_join : (old mid new : Live) (block at : ℕ) (t u : Tree) (ok : Bool) → Stands old block at (t ⊕ u) → Frees old mid block at t true → Frees mid new block (at + length (words t)) u ok → Frees old new block at (t ⊕ u) ok
frees_join old mid new block at t u ok s f g =
    let p = pins_of old in
    let p' = pins_of mid in
    let free : is_free p t ≡ true = sym f.answered in
    let pins : (q : ℕ) → 0 < times q u → p' q ≡ p q = (λ q l.
    let once = s.once q in
    let apart = s.apart in
    let a = times-append q t u in
    let ne : q ≢ block = λ i. let x : 0 < times block (t ⊕ u) = (let P : ℕ → Type 0 = λ x. 0 < times x (t ⊕ u) in subst P i (omega arith)) in omega arith in
    let less = times-left p q t in
    same_pins old mid q (f.replaced.others q ne (omega arith) (omega arith))) in
    let P : Tree → Type 0 = λ x. Replaces mid new block (at + length (words t)) u x in
    let second : Replaces mid new block (at + length (words t)) u (left p u) = subst P (left-same p' p u pins) g.replaced in
    let both = replaces_beside old mid new block at t u (left p t) (left p u) s (size-left p t) f.replaced second (λ q a b. let less = times-left p q u in absurd (omega arith)) in
    let same : left p (t ⊕ u) ≡ left p t ⊕ left p u = left-append p t u ∙ ap (λ (k : Bool). left p t ⊕ cond k (left p u) u) free in
    record {
      replaced = let P : Tree → Type 0 = λ x. Replaces old new block at (t ⊕ u) x in subst P (sym same) both;
      answered = g.answered ∙ (is_free-same p' p u pins ∙ sym (is_free-append p t u ∙ ap (λ (k : Bool). k && is_free p u) free));
    }

-- a part of t is freed, and the rest has P
pub record Freed (old now : Live) (block at place : ℕ) (P : Tree → Type 0) (t : Tree) : Type 0 where
  pub done : Tree
  pub rest : Tree
  pub split : t ≡ done ⊕ rest
  pub here : place ≡ at + length (words done)
  pub freed : Frees old now block at done true
  pub has : P rest

pub freed_none : (m : Live) (block at : ℕ) (P : Tree → Type 0) (t : Tree) → Stands m block at t → P t → Freed m m block at at P t
freed_none m block at P t s p = record {
  done = End;
  rest = t;
  split = refl;
  here = omega arith;
  freed = record { replaced = replaces_same m block at End (stands_front m block at End t s); answered = refl };
  has = p;
}

-- the rest stands where the next part begins
pub freed_rest : (old now : Live) (block at place : ℕ) (P : Tree → Type 0) (t : Tree) → Stands old block at t → (f : Freed old now block at place P t) → Stands now block place f.rest
freed_rest old now block at place P t s f =
    let Q : Tree → Type 0 = λ x. Stands old block at x in
    let R : ℕ → Type 0 = λ n. Stands now block n f.rest in
    subst R (sym f.here) (stands_behind old now block at f.done f.rest (left (pins_of old) f.done) (subst Q f.split s) (size-left (pins_of old) f.done) f.freed.replaced)

pub freed_all : (old now : Live) (block at place : ℕ) (t : Tree) → Freed old now block at place (λ x. x ≡ End) t → Frees old now block at t true
freed_all old now block at place t f =
    let whole : t ≡ f.done = f.split ∙ (ap (λ (x : Tree). f.done ⊕ x) f.has ∙ append-End f.done) in
    let P : Tree → Type 0 = λ x. Frees old now block at x true in
    subst P (sym whole) f.freed

-- one part more
module _ (old mid new : Live) (block at place : ℕ) (P Q : Tree → Type 0) (t : Tree) (s : Stands old block at t) (f : Freed old mid block at place (Joins P Q) t) where
  pub first_part : Stands mid block place f.has.front
  first_part =
      let R : Tree → Type 0 = λ x. Stands mid block place x in
      stands_front mid block place f.has.front f.has.back (subst R f.has.split (freed_rest old mid block at place (Joins P Q) t s f))

  regrouped : t ≡ (f.done ⊕ f.has.front) ⊕ f.has.back
  regrouped = f.split ∙ (ap (λ (x : Tree). f.done ⊕ x) f.has.split ∙ sym (append-append f.done f.has.front f.has.back))

  pub freed_more : (w : ℕ) → length (words f.has.front) ≡ w → Frees mid new block place f.has.front true → Freed old new block at (place + w) Q t
  freed_more w e g =
      let S : Tree → Type 0 = λ x. Stands old block at x in
      let st = stands_front old block at (f.done ⊕ f.has.front) f.has.back (subst S regrouped s) in
      let G : ℕ → Type 0 = λ n. Frees mid new block n f.has.front true in
      record {
        done = f.done ⊕ f.has.front;
        rest = f.has.back;
        split = regrouped;
        here = let h = f.here in let l = size-append f.done f.has.front in omega arith;
        freed = frees_join old mid new block at f.done f.has.front true st f.freed (subst G f.here g);
        has = f.has.second;
      }

  pub freed_stop : Frees mid new block place f.has.front false → Frees old new block at t false
  freed_stop g =
      let S : Tree → Type 0 = λ x. Stands old block at x in
      let R : Tree → Type 0 = λ x. Stands mid block place x in
      let rest = subst R f.has.split (freed_rest old mid block at place (Joins P Q) t s f) in
      let stop = frees_stop mid new block place f.has.front f.has.back rest g in
      let F : Tree → Type 0 = λ x. Frees mid new block place x false in
      let G : ℕ → Type 0 = λ n. Frees mid new block n f.rest false in
      let join = frees_join old mid new block at f.done f.rest false (subst S f.split s) f.freed (subst G f.here (subst F (sym f.has.split) stop)) in
      let T : Tree → Type 0 = λ x. Frees old new block at x false in
      subst T (sym f.split) join

-- the next part ends where the whole does, or before
pub freed_within : (old now : Live) (block at place : ℕ) (P Q : Tree → Type 0) (t : Tree) (f : Freed old now block at place (Joins P Q) t) (w n : ℕ) → length (words f.has.front) ≡ w → at + length (words t) < n → place + w < n
freed_within old now block at place P Q t f w n e l =
    let a : length (words t) ≡ length (words f.done) + length (words f.rest) = ap (λ (x : Tree). length (words x)) f.split ∙ size-append f.done f.rest in
    let b : length (words f.rest) ≡ length (words f.has.front) + length (words f.has.back) = ap (λ (x : Tree). length (words x)) f.has.split ∙ size-append f.has.front f.has.back in
    let h = f.here in
    omega arith

-- elements: at one of them, and behind the last
pub freed_element : (old now : Live) (block at place n i : ℕ) (P : Tree → Type 0) (t : Tree) → i < n → Freed old now block at place (Repeats (n - i) P) t → Freed old now block at place (Joins P (Repeats (n - (i + 1)) P)) t
freed_element old now block at place n i P t l f =
    let e : n - i ≡ suc (n - (i + 1)) = omega arith in
    let F : ℕ → Type 0 = λ k. Freed old now block at place (Repeats k P) t in
    subst F e f

pub freed_elements : (old now : Live) (block at place n i : ℕ) (P : Tree → Type 0) (t : Tree) → n ≤ i → Freed old now block at place (Repeats (n - i) P) t → Frees old now block at t true
freed_elements old now block at place n i P t l f =
    let e : n - i ≡ 0 = omega arith in
    let F : ℕ → Type 0 = λ k. Freed old now block at place (Repeats k P) t in
    freed_all old now block at place t (subst F e f)

-- parts: at one of them, and behind the last
pub freed_part : (old now : Live) (block at place i : ℕ) (ss : List Shape) (parts : List ℕ) (t : Tree) → i < length parts → Freed old now block at place (Fits (row (map (shape_at ss) (drop i parts)))) t → Freed old now block at place (Joins (Fits (shape_at ss (get_or parts i 0))) (Fits (row (map (shape_at ss) (drop (i + 1) parts))))) t
freed_part old now block at place i ss parts t l f =
    let F : List ℕ → Type 0 = λ k. Freed old now block at place (Fits (row (map (shape_at ss) k))) t in
    subst F (drop_more parts i 0 l) f

pub freed_parts : (old now : Live) (block at place i : ℕ) (ss : List Shape) (parts : List ℕ) (t : Tree) → length parts ≤ i → Freed old now block at place (Fits (row (map (shape_at ss) (drop i parts)))) t → Frees old now block at t true
freed_parts old now block at place i ss parts t l f =
    let F : List ℕ → Type 0 = λ k. Freed old now block at place (Fits (row (map (shape_at ss) k))) t in
    freed_all old now block at place t (subst F (drop_all i parts l) f)

-- where no word tells of an allocation, there is nothing to give
pub frees_plain : (m : Live) (block at : ℕ) (s : Shape) (t : Tree) → has_holder s ≡ false → Holds m block at s t → Frees m m block at t true
frees_plain m block at s t e h = frees_bare m block at t h.stands (plain-bare s e t h.fits)

pub times_plain : (n : ℕ) (s : Shape) → has_holder s ≡ false → has_holder (Times n s) ≡ false
times_plain zero s e = refl
times_plain (suc n) s e = e

pub frees_plain_contents : (m : Live) (block : ℕ) (s : Shape) (n : ℕ) (t : Tree) → has_holder s ≡ false → IsContents m block s n t → Frees m m block 0 t true
frees_plain_contents m block s n t e h = frees_plain m block 0 (Times n s) t (times_plain n s e) h.holds

-- a block has as many elements as its length tells
pub contents_length : (m : Live) (block : ℕ) (s : Shape) (n : ℕ) (t : Tree) → IsContents m block s n t → length (words_of m block) ≡ n * width s
contents_length m block s n t h = ap length h.exact ∙ size-fits (Times n s) t h.holds.fits

pub contents_count : (m : Live) (block : ℕ) (s : Shape) (n : ℕ) (t : Tree) → 0 < width s → IsContents m block s n t → length (words_of m block) / width s ≡ n
contents_count m block s n t p h = ap (λ (k : ℕ). k / width s) (contents_length m block s n t h) ∙ mul-div_cancel n p

-- a block that is not pinned stays so while its contents are given
pub unpinned_after : (old mid : Live) (b : ℕ) (c : Tree) (ok : Bool) → Frees old mid b 0 c ok → pins_of old b ≡ 0 → pins_of mid b ≡ 0
unpinned_after old mid b c ok f z = f.replaced.pinned ∙ z

pub count_is : (n₁ n₂ : ℕ) (m : Live) (block : ℕ) (s : Shape) (n : ℕ) (t : Tree) → 0 < width s → n₁ ≡ length (words_of m block) → n₂ ≡ width s → IsContents m block s n t → n₁ / n₂ ≡ n
count_is n₁ n₂ m block s n t p e f h = ap (λ (k : ℕ). k / n₂) e ∙ (ap (λ (k : ℕ). length (words_of m block) / k) f ∙ contents_count m block s n t p h)

-- the test whether a block is pinned, said in full
pub is_free-none : (p : ℕ → ℕ) (t : Tree) → NonePinned p t → is_free p t ≡ true
is_free-none p End h = refl
is_free-none p (Word w t) h = is_free-none p t h
is_free-none p (Unallocated d t) h = is_free-none p t h
is_free-none p (Allocated b d c t) h =
    let own : nat_eq (p b) 0 ≡ true = eq-eqb (p b) 0 (h b (times_own b d c t)) in
    let x = is_free-none p c (λ q l. h q (omega arith)) in
    let y = is_free-none p t (λ q l. h q (omega arith)) in
    rw (own, x, y) refl

pub none-is_free : (p : ℕ → ℕ) (t : Tree) → is_free p t ≡ true → NonePinned p t
none-is_free p End e q l = absurd (omega arith)
none-is_free p (Word w t) e q l = none-is_free p t e q l
none-is_free p (Unallocated d t) e q l = none-is_free p t e q l
none-is_free p (Allocated b d c t) e q l =
    let k = and_parts (nat_eq (p b) 0 && is_free p c) (is_free p t) e in
    let j = and_parts (nat_eq (p b) 0) (is_free p c) k.0 in
    elim (own_or_other q b) [
      | inl o ↦ let P : ℕ → Type 0 = λ x. p x ≡ 0 in subst P (sym o.0) (eqb-true (p b) 0 j.0)
      | inr o ↦ elim (zero_or_more (times q c)) [
        | inl z ↦ let o1 = o.1 in none-is_free p t k.1 q (omega arith)
        | inr z ↦ none-is_free p c j.1 q z
      ]
    ]

pub frees_unpinned : (old new : Live) (block at : ℕ) (t : Tree) (ok : Bool) → Frees old new block at t ok → (ok ≡ true) ↔ NonePinned (pins_of old) t
frees_unpinned old new block at t ok f = (λ e. none-is_free (pins_of old) t (sym f.answered ∙ e), λ n. f.answered ∙ is_free-none (pins_of old) t n)

pub frees_gives : (old new : Live) (block at : ℕ) (t : Tree) → Frees old new block at t true → (q : ℕ) → 0 < times q t → get new q ≡ None
frees_gives old new block at t f q l = f.replaced.given q (free-left (pins_of old) t (sym f.answered) q) l

pub on_ok : {T E : Type 0} (r : Result T E) (P : Type 0) → (is_ok r ≡ true → P) → OnOk r P
on_ok (Ok x) P f = f refl
on_ok (Err e) P f = tt
