-- Laws on the account of a heap in which an object's tree became another.
use Rattle.std.proofs.Common.{◌≡◌, ◌≢◌, ℕ, ℤ, inl, inr, ◌+◌, ◌<◌, ◌≤◌, List, [], ◌∷◌, ◌++◌, length, refl, ap, sym, subst, ◌∙◌, arith, true, Bool}
use Rattle.std.specs.Prelude.{Option, None, Some}
use Rattle.std.specs.Cmp.{nat_cmp_total}
use Rattle.std.specs.FinMap.{get, remove, same_map, nat_cmp-IsAntisymmetric}
use Rattle.std.proofs.lemmas.Bool.{cases_eq, eq-eqb}
use Rattle.f3_live_blocks.specs.Blocks.{Block, Live, IsLive, pins_in, words_of, pins_of, with_words}
use Rattle.f3_heap_laws.specs.Account.{r, used_by}
use Rattle.f3_heap_laws.specs.Answers.{Take, costs}
use Rattle.f3_heap_laws.proofs.Answers.{used-removed, costs-append}
use Rattle.f3_live_blocks.proofs.Laws.{get-insert_same, get-insert_other, get-remove_same, get-remove_other}
use Rattle.f3_desc.specs.Shape.{Shape}
use Rattle.f3_objects.specs.Tree.{Tree, End, Word, Unallocated, Allocated, words, times, one_at, footprint, IsBare}
use Rattle.f3_objects.specs.Holds.{Held, Stands, Replaces, Frees, left}
use Rattle.f3_objects.specs.Copies.{Ready, Copies, takings, asked_of, asks}
use Rattle.f3_objects.proofs.Taking.{nil-append, asked-append, none_refused}
use Rattle.f3_objects.proofs.Trees.{zero_or_more, times_own, size-fits, size-left, times-left, free-left}
use Rattle.f3_objects.proofs.Changes.{held-same, same_live, same_words, stands_replaced}
use Rattle.f3_objects.proofs.Spans.{length-written}
use Rattle.f3_objects.proofs.Writes.{with_words_same}
use Rattle.f3_objects.proofs.Holders.{own_or_other}
use Rattle.f3_objects.proofs.Used.{used-with_words}

-- a heap without the blocks of a tree
abbrev pub without : Live → Tree → Live
without m End = m
without m (Word w t) = without m t
without m (Unallocated d t) = without m t
without m (Allocated b d c t) = without (without (remove m b) c) t

not_own : (q b : ℕ) (n : ℕ) → one_at q b + n ≡ 0 → q ≢ b
not_own q b n z e = let o : one_at q b ≡ 1 = rw (eq-eqb q b e) refl in omega arith

without_other : (m : Live) (t : Tree) (q : ℕ) → times q t ≡ 0 → get (without m t) q ≡ get m q
without_other m End q z = refl
without_other m (Word w t) q z = without_other m t q z
without_other m (Unallocated d t) q z = without_other m t q z
without_other m (Allocated b d c t) q z =
    without_other (without (remove m b) c) t q (omega arith) ∙ (without_other (remove m b) c q (omega arith) ∙ get-remove_other m b q (not_own q b (times q c + times q t) z))

-- what is gone stays so
without_gone : (m : Live) (t : Tree) (q : ℕ) → get m q ≡ None → get (without m t) q ≡ None
without_gone m End q e = e
without_gone m (Word w t) q e = without_gone m t q e
without_gone m (Unallocated d t) q e = without_gone m t q e
without_gone m (Allocated b d c t) q e = without_gone (without (remove m b) c) t q (without_gone (remove m b) c q (elim (cases_eq q b) [
  | inl is ↦ let P : ℕ → Type 0 = λ x. get (remove m b) x ≡ None in subst P (sym is) (get-remove_same m b)
  | inr ne ↦ get-remove_other m b q ne ∙ e
]))

without_own : (m : Live) (t : Tree) (q : ℕ) → 0 < times q t → get (without m t) q ≡ None
without_own m End q n = absurd (omega arith)
without_own m (Word w t) q n = without_own m t q n
without_own m (Unallocated d t) q n = without_own m t q n
without_own m (Allocated b d c t) q n = elim (own_or_other q b) [
  | inl o ↦ without_gone (without (remove m b) c) t q (without_gone (remove m b) c q (let P : ℕ → Type 0 = λ x. get (remove m b) x ≡ None in subst P (sym o.0) (get-remove_same m b)))
  | inr o ↦ elim (zero_or_more (times q c)) [
    | inl z ↦ let z2 = o.1 in without_own (without (remove m b) c) t q (omega arith)
    | inr z ↦ without_gone (without (remove m b) c) t q (without_own (remove m b) c q z)
  ]
]

-- the account is the footprint of a tree and the account without its blocks
used-without : (m : Live) (t : Tree) → Held m t → ((q : ℕ) → times q t ≤ 1) → used_by m ≡ footprint t + used_by (without m t)
used-without m End h o = omega arith
used-without m (Word w t) h o = used-without m t h o
used-without m (Unallocated d t) h o = used-without m t h o
used-without m (Allocated b d c t) h o =
    let first = used-removed m b h.0 in
    let len : r (length (words_of m b)) ≡ r (length (words c)) = ap (λ (l : List ℤ). r (length l)) h.1 in
    let other : (q : ℕ) → 0 < times q c + times q t → q ≢ b = (λ q n e. let k = o q in let s : one_at q b ≡ 1 = rw (eq-eqb q b e) refl in omega arith) in
    let inner : Held (remove m b) c = held-same m (remove m b) c (λ q n. get-remove_other m b q (other q (omega arith))) h.2 in
    let second = used-without (remove m b) c inner (λ q. let k = o q in omega arith) in
    let rest : Held (without (remove m b) c) t = held-same m (without (remove m b) c) t (λ q n. without_other (remove m b) c q (let k = o q in omega arith) ∙ get-remove_other m b q (other q (omega arith))) h.3 in
    let third = used-without (without (remove m b) c) t rest (λ q. let k = o q in omega arith) in
    omega arith

-- one law for all calls on objects: what an object's blocks took is given, and what the new one's take is taken
module _ (old new : Live) (block at : ℕ) (t u : Tree) (s : Stands old block at t) (len : length (words u) ≡ length (words t)) (c : Replaces old new block at t u) (once : (q : ℕ) → times q u ≤ 1) where
  own : times block u ≡ 0
  own = (stands_replaced old new block at t u s len c once).apart

  others_same : without new u ≡ with_words (without old t) block (words_of new block)
  others_same = same_map nat_cmp_total nat_cmp-IsAntisymmetric (without new u) (with_words (without old t) block (words_of new block)) (λ q. elim (cases_eq q block) [
    | inl e ↦
        let P : ℕ → Type 0 = λ x. get (without new u) x ≡ get (with_words (without old t) block (words_of new block)) x in
        let whole : get new block ≡ Some (record { words = words_of new block; pins = pins_of new block }) = ap (λ (m : Live). get m block) (sym (with_words_same new block c.live)) ∙ get-insert_same new block _ in
        let pins : pins_of new block ≡ pins_of (without old t) block = c.pinned ∙ sym (ap pins_in (without_other old t block s.apart)) in
        let f : ℕ → Option Block = λ n. Some (record { words = words_of new block; pins = n }) in
        subst P (sym e) (without_other new u block own ∙ (whole ∙ (ap f pins ∙ sym (get-insert_same (without old t) block _))))
    | inr ne ↦
        let there : get (with_words (without old t) block (words_of new block)) q ≡ get (without old t) q = get-insert_other (without old t) block _ q ne in
        elim (zero_or_more (times q u)) [
          | inl z ↦ elim (zero_or_more (times q t)) [
            | inl y ↦ without_other new u q z ∙ (c.others q ne z y ∙ (sym (without_other old t q y) ∙ sym there))
            | inr y ↦ without_other new u q z ∙ (c.given q z y ∙ (sym (without_own old t q y) ∙ sym there))
          ]
          | inr z ↦ elim (zero_or_more (times q t)) [
            | inl y ↦ without_own new u q z ∙ (sym ((c.taken q z y).0) ∙ (sym (without_other old t q y) ∙ sym there))
            | inr y ↦ without_own new u q z ∙ (sym (without_own old t q y) ∙ sym there)
          ]
        ]
  ])

  pub used_replaced : used_by new + footprint t ≡ used_by old + footprint u
  used_replaced =
      let before = used-without old t s.held s.once in
      let after = used-without new u c.held once in
      let w = s.within in
      let kept : get (without old t) block ≡ get old block = without_other old t block s.apart in
      let live : IsLive (without old t) block = same_live old (without old t) block kept s.live in
      let size : length (words_of new block) ≡ length (words_of (without old t) block) = ap length c.written ∙ (length-written (words_of old block) at (words u) (omega arith) ∙ sym (ap length (same_words old (without old t) block kept))) in
      let same : used_by (without new u) ≡ used_by (without old t) = ap used_by others_same ∙ used-with_words (without old t) block (words_of new block) live size in
      omega arith

footprint-bare : (t : Tree) → IsBare t → footprint t ≡ 0
footprint-bare End bare = refl
footprint-bare (Word w t) bare = footprint-bare t bare
footprint-bare (Unallocated d t) bare = footprint-bare t bare
footprint-bare (Allocated b d c t) bare = let z = bare b in let p = times_own b d c t in absurd (omega arith)

-- after blocks were given back
module _ (old new : Live) (block at : ℕ) (t : Tree) (s : Stands old block at t) (ok : Bool) (f : Frees old new block at t ok) where
  pub used_left : used_by new + footprint t ≡ used_by old + footprint (left (pins_of old) t)
  used_left = used_replaced old new block at t (left (pins_of old) t) s (size-left (pins_of old) t) f.replaced (λ q. let a = s.once q in let b = times-left (pins_of old) q t in omega arith)

  pub used_freed : ok ≡ true → used_by new + footprint t ≡ used_by old
  used_freed is =
      let none = footprint-bare (left (pins_of old) t) (free-left (pins_of old) t (sym f.answered ∙ is)) in
      let all = used_left in
      omega arith

-- what a tree takes is told by the lengths of its blocks
abbrev words_for : List ℕ → ℕ
words_for [] = 0
words_for (n ∷ ns) = r n + words_for ns

words_for-append : (xs ys : List ℕ) → words_for (xs ++ ys) ≡ words_for xs + words_for ys
words_for-append [] ys = omega arith
words_for-append (x ∷ xs) ys = let e = words_for-append xs ys in omega arith

footprint-asks : (t : Tree) → footprint t ≡ words_for (asks t)
footprint-asks End = refl
footprint-asks (Word w t) = footprint-asks t
footprint-asks (Unallocated d t) = footprint-asks t
footprint-asks (Allocated b d c t) =
    let x = footprint-asks c in
    let y = footprint-asks t in
    let e : words_for (asks (Allocated b d c t)) ≡ r (length (words c)) + (words_for (asks c) + words_for (asks t)) =
    ap (λ (l : List ℕ). r (length (words c)) + words_for l) (asked-append (takings c) (takings t)) ∙ ap (λ (n : ℕ). r (length (words c)) + n) (words_for-append (asks c) (asks t)) in
    omega arith

pub costs-takings : (t : Tree) → costs (takings t) ≡ footprint t
costs-takings End = refl
costs-takings (Word w t) = costs-takings t
costs-takings (Unallocated d t) = costs-takings t
costs-takings (Allocated b d c t) =
    let x = costs-takings c in
    let y = costs-takings t in
    let e : costs (takings (Allocated b d c t)) ≡ r (length (words c)) + (costs (takings c) + costs (takings t)) = ap (λ (n : ℕ). r (length (words c)) + n) (costs-append (takings c) (takings t)) in
    omega arith

-- after a copy
module _ (old new : Live) (from from_at to to_at : ℕ) (s : Shape) (t u : Tree) (ready : Ready old from from_at to to_at s t u) {W : List Take → Type 0} (c : Copies old new to to_at s t u [] W) where
  same_asks : asks t ≡ asks c.copy
  same_asks =
      c.asked
      ∙ (ap (λ (l : List ℕ). asked_of (takings c.copy ++ c.refused) ++ l) (c.all refl)
      ∙ (nil-append (asked_of (takings c.copy ++ c.refused))
      ∙ (ap (λ (l : List Take). asked_of (takings c.copy ++ l)) (none_refused c.refused c.told) ∙ ap asked_of (nil-append (takings c.copy)))))

  pub used_copied : used_by new ≡ used_by old + footprint t
  used_copied =
      let size : length (words c.copy) ≡ length (words u) = size-fits s c.copy c.fits ∙ sym (size-fits s u ready.target.fits) in
      let all = used_replaced old new to to_at u c.copy ready.target.stands size c.replaced c.once in
      let none = footprint-bare u ready.bare in
      let same : footprint t ≡ footprint c.copy = footprint-asks t ∙ (ap words_for same_asks ∙ sym (footprint-asks c.copy)) in
      omega arith
