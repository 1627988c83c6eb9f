-- Laws on what stands in blocks, and on what replaces it.
use Rattle.std.proofs.Common.{◌≡◌, ◌≢◌, ℕ, ℤ, ◌+◌, ◌<◌, ◌≤◌, inl, inr, cond, true, false, nat_eq, List, length, take, drop, refl, ap, sym, subst, ◌∙◌, arith, is_some, IsTrue}
use Rattle.std.specs.Prelude.{Option, None}
use Rattle.std.specs.FinMap.{get}
use Rattle.f3_live_blocks.specs.Blocks.{Block, Live, IsLive, words_in, pins_in, words_of, pins_of}
use Rattle.f3_objects.specs.Tree.{Tree, End, Word, Unallocated, Allocated, ◌⊕◌, words, times, IsBare}
use Rattle.f3_objects.specs.Holds.{Held, Stands, Replaces, with_words_at}
use Rattle.f3_objects.proofs.Trees.{words-append, size-append, times-append, held_front, held_back, held_both, zero_or_more}
use Rattle.f3_objects.proofs.Spans.{length-written, written_there, written_behind, written_again, written_same, behind_written, front_part, back_part}
use Rattle.std.proofs.lemmas.Bool.{eqb-true, eq-eqb}

-- a live block is some block
pub not_dead : (m : Live) (q : ℕ) → IsLive m q → get m q ≡ None → ⊥
not_dead m q h e = no_some (get m q) e h
  where
    no_some : (o : Option Block) → o ≡ None → IsTrue (is_some o) → ⊥
    no_some o e h = cc

pub same_live : (m n : Live) (q : ℕ) → get n q ≡ get m q → IsLive m q → IsLive n q
same_live m n q e h = ap is_some e ∙ h

pub same_words : (m n : Live) (q : ℕ) → get n q ≡ get m q → words_of n q ≡ words_of m q
same_words m n q e = ap words_in e

pub same_pins : (m n : Live) (q : ℕ) → get n q ≡ get m q → pins_of n q ≡ pins_of m q
same_pins m n q e = ap pins_in e

pub held-live : (m : Live) (q : ℕ) (t : Tree) → Held m t → 0 < times q t → IsLive m q
held-live m q End h p = absurd (omega arith)
held-live m q (Word w t) h p = held-live m q t h p
held-live m q (Unallocated d t) h p = held-live m q t h p
held-live m q (Allocated b d c t) h p =
    elim (nat_eq q b) as (λ k. nat_eq q b ≡ k → 0 < cond k 1 0 + (times q c + times q t) → IsLive m q) [
      | true ↦ λ e l. let P : ℕ → Type 0 = λ x. IsLive m x in subst P (sym (eqb-true q b e)) h.0
      | false ↦ λ e l. elim (zero_or_more (times q c)) [
        | inl z ↦ held-live m q t h.3 (omega arith)
        | inr z ↦ held-live m q c h.2 z
      ]
    ] refl p

-- only the blocks beneath matter
pub held-same : (m n : Live) (t : Tree) → ((q : ℕ) → 0 < times q t → get n q ≡ get m q) → Held m t → Held n t
held-same m n End f h = tt
held-same m n (Word w t) f h = held-same m n t f h
held-same m n (Unallocated d t) f h = held-same m n t f h
held-same m n (Allocated b d c t) f h =
    let own : get n b ≡ get m b = f b (rw (eq-eqb b b refl) (omega arith)) in
    (same_live m n b own h.0, same_words m n b own ∙ h.1, held-same m n c (λ q p. f q (omega arith)) h.2, held-same m n t (λ q p. f q (omega arith)) h.3, h.4)

-- parts of what stands
pub stands_front : (m : Live) (block at : ℕ) (t u : Tree) → Stands m block at (t ⊕ u) → Stands m block at t
stands_front m block at t u s =
    let len = size-append t u in
    record {
      live = s.live;
      within = let w = s.within in omega arith;
      there = front_part (words_of m block) (words t) (words u) at (let e = s.there in let P : List ℤ → Type 0 = λ l. take (length l) (drop at (words_of m block)) ≡ l in subst P (words-append t u) e);
      held = held_front m t u s.held;
      once = λ q. let a = s.once q in let b = times-append q t u in omega arith;
      apart = let a = s.apart in let b = times-append block t u in omega arith;
    }

pub stands_back : (m : Live) (block at : ℕ) (t u : Tree) → Stands m block at (t ⊕ u) → Stands m block (at + length (words t)) u
stands_back m block at t u s =
    let len = size-append t u in
    record {
      live = s.live;
      within = let w = s.within in omega arith;
      there = back_part (words_of m block) (words t) (words u) at (let e = s.there in let P : List ℤ → Type 0 = λ l. take (length l) (drop at (words_of m block)) ≡ l in subst P (words-append t u) e);
      held = held_back m t u s.held;
      once = λ q. let a = s.once q in let b = times-append q t u in omega arith;
      apart = let a = s.apart in let b = times-append block t u in omega arith;
    }

-- nothing changes
pub replaces_same : (m : Live) (block at : ℕ) (t : Tree) → Stands m block at t → Replaces m m block at t t
replaces_same m block at t s = record {
  live = s.live;
  written = sym (written_same (words_of m block) at (words t) s.there);
  pinned = refl;
  held = s.held;
  taken = λ q a b. absurd (omega arith);
  kept = λ q a b. refl;
  given = λ q a b. absurd (omega arith);
  others = λ q a b c. refl;
}

-- two parts side by side: what was new in the second change was no block before the first
module _ (old mid new : Live) (block at : ℕ) (t₁ t₂ u₁ u₂ : Tree) (s : Stands old block at (t₁ ⊕ t₂)) (e : length (words u₁) ≡ length (words t₁)) (r₁ : Replaces old mid block at t₁ u₁) (r₂ : Replaces mid new block (at + length (words t₁)) t₂ u₂) (fresh : (q : ℕ) → 0 < times q u₂ → times q t₂ ≡ 0 → get old q ≡ None) where
  apart_own : (q : ℕ) → 0 < times q u₁ → q ≢ block
  apart_own q p = λ is.
      let here : 0 < times block u₁ = let P : ℕ → Type 0 = λ x. 0 < times x u₁ in subst P is p in
      let none : times block t₁ ≡ 0 = let a = s.apart in let b = times-append block t₁ t₂ in omega arith in
      not_dead old block s.live ((r₁.taken block here none).0)

  live_back : (q : ℕ) → 0 < times q t₂ → IsLive old q
  live_back q p = held-live old q t₂ (held_back old t₁ t₂ s.held) p

  -- a block beneath the first result is not beneath the second tree, before or after
  not_second : (q : ℕ) → 0 < times q u₁ → times q t₂ ≡ 0
  not_second q p = elim (zero_or_more (times q t₁)) [
    | inl z ↦ elim (zero_or_more (times q t₂)) [
      | inl y ↦ y
      | inr y ↦ absurd (not_dead old q (live_back q y) ((r₁.taken q p z).0))
    ]
    | inr z ↦ let a = s.once q in let b = times-append q t₁ t₂ in omega arith
  ]

  not_second_new : (q : ℕ) → 0 < times q u₁ → times q u₂ ≡ 0
  not_second_new q p = elim (zero_or_more (times q u₂)) [
    | inl y ↦ y
    | inr y ↦ absurd (not_dead mid q (held-live mid q u₁ r₁.held p) ((r₂.taken q y (not_second q p)).0))
  ]

  first_stays : (q : ℕ) → 0 < times q u₁ → get new q ≡ get mid q
  first_stays q p = r₂.others q (apart_own q p) (not_second_new q p) (not_second q p)

  in_second : (q : ℕ) → 0 < times q (u₁ ⊕ u₂) → times q u₁ ≡ 0 → 0 < times q u₂
  in_second q p z = let b = times-append q u₁ u₂ in omega arith

  not_own : (q : ℕ) → IsLive old block → get old q ≡ None → q ≢ block
  not_own q h n = λ is. not_dead old block h (ap (get old) (sym is) ∙ n)

  both_taken : (q : ℕ) → 0 < times q (u₁ ⊕ u₂) → times q (t₁ ⊕ t₂) ≡ 0 → (get old q ≡ None) × (pins_of new q ≡ 0)
  both_taken q p n =
      let b = times-append q t₁ t₂ in
      let n₁ : times q t₁ ≡ 0 = omega arith in
      let n₂ : times q t₂ ≡ 0 = omega arith in
      elim (zero_or_more (times q u₁)) [
        | inl z ↦ (fresh q (in_second q p z) n₂, (r₂.taken q (in_second q p z) n₂).1)
        | inr z ↦ ((r₁.taken q z n₁).0, same_pins mid new q (first_stays q z) ∙ (r₁.taken q z n₁).1)
      ]

  both_kept : (q : ℕ) → 0 < times q (u₁ ⊕ u₂) → 0 < times q (t₁ ⊕ t₂) → pins_of new q ≡ pins_of old q
  both_kept q p l =
      let b = times-append q t₁ t₂ in
      let o = s.once q in
      elim (zero_or_more (times q u₁)) [
        | inl z ↦ elim (zero_or_more (times q t₂)) [
          | inl y ↦ absurd (not_dead old q (held-live old q (t₁ ⊕ t₂) s.held l) (fresh q (in_second q p z) y))
          | inr y ↦
              let n₁ : times q t₁ ≡ 0 = omega arith in
              let ne : q ≢ block = λ is. let a = s.apart in let w : 0 < times block (t₁ ⊕ t₂) = (let P : ℕ → Type 0 = λ x. 0 < times x (t₁ ⊕ t₂) in subst P is l) in omega arith in
              r₂.kept q (in_second q p z) y ∙ same_pins old mid q (r₁.others q ne z n₁)
        ]
        | inr z ↦
            let y : times q t₂ ≡ 0 = not_second q z in
            let l₁ : 0 < times q t₁ = omega arith in
            same_pins mid new q (first_stays q z) ∙ r₁.kept q z l₁
      ]

  both_given : (q : ℕ) → times q (u₁ ⊕ u₂) ≡ 0 → 0 < times q (t₁ ⊕ t₂) → get new q ≡ None
  both_given q n l =
      let a = times-append q u₁ u₂ in
      let b = times-append q t₁ t₂ in
      let o = s.once q in
      let n₁ : times q u₁ ≡ 0 = omega arith in
      let n₂ : times q u₂ ≡ 0 = omega arith in
      let ne : q ≢ block = λ is. let a = s.apart in let w : 0 < times block (t₁ ⊕ t₂) = (let P : ℕ → Type 0 = λ x. 0 < times x (t₁ ⊕ t₂) in subst P is l) in omega arith in
      elim (zero_or_more (times q t₂)) [
        | inl z ↦ let l₁ : 0 < times q t₁ = omega arith in r₂.others q ne n₂ z ∙ r₁.given q n₁ l₁
        | inr z ↦ r₂.given q n₂ z
      ]

  both_others : (q : ℕ) → q ≢ block → times q (u₁ ⊕ u₂) ≡ 0 → times q (t₁ ⊕ t₂) ≡ 0 → get new q ≡ get old q
  both_others q ne n l =
      let a = times-append q u₁ u₂ in
      let b = times-append q t₁ t₂ in
      r₂.others q ne (omega arith) (omega arith) ∙ r₁.others q ne (omega arith) (omega arith)

  pub replaces_beside : Replaces old new block at (t₁ ⊕ t₂) (u₁ ⊕ u₂)
  replaces_beside =
      let w = s.within in
      let len = size-append t₁ t₂ in
      let le : at ≤ length (words_of old block) = omega arith in
      record {
        live = r₂.live;
        written =
            r₂.written ∙ (ap (λ (l : List ℤ). with_words_at l (at + length (words t₁)) (words u₂)) r₁.written
            ∙ (ap (λ (n : ℕ). with_words_at (with_words_at (words_of old block) at (words u₁)) (at + n) (words u₂)) (sym e)
            ∙ (written_behind (words_of old block) at (words u₁) (words u₂) le ∙ ap (with_words_at (words_of old block) at) (sym (words-append u₁ u₂)))));
        pinned = r₂.pinned ∙ r₁.pinned;
        held = held_both new u₁ u₂ (held-same mid new u₁ first_stays r₁.held) r₂.held;
        taken = both_taken;
        kept = both_kept;
        given = both_given;
        others = both_others;
      }

-- one change after another at the same place: what is given and taken again is not a new block
module _ (old mid new : Live) (block at : ℕ) (t u v : Tree) (w : at + length (words t) ≤ length (words_of old block)) (l : IsLive old block) (e : length (words u) ≡ length (words t)) (f : length (words v) ≡ length (words u)) (r₁ : Replaces old mid block at t u) (r₂ : Replaces mid new block at u v) (again : (q : ℕ) → 0 < times q v → 0 < times q t → 0 < times q u) where
  own_apart : (q : ℕ) → get old q ≡ None → q ≢ block
  own_apart q n = λ is. not_dead old block l (ap (get old) (sym is) ∙ n)

  own_mid : (q : ℕ) → get mid q ≡ None → q ≢ block
  own_mid q n = λ is. not_dead mid block r₁.live (ap (get mid) (sym is) ∙ n)

  then_taken : (q : ℕ) → 0 < times q v → times q t ≡ 0 → (get old q ≡ None) × (pins_of new q ≡ 0)
  then_taken q p n = elim (zero_or_more (times q u)) [
    | inl z ↦
        let k = r₂.taken q p z in
        (sym (r₁.others q (own_mid q k.0) z n) ∙ k.0, k.1)
    | inr z ↦
        let k = r₁.taken q z n in
        (k.0, r₂.kept q p z ∙ k.1)
  ]

  then_given : (q : ℕ) → q ≢ block → times q v ≡ 0 → 0 < times q t → get new q ≡ None
  then_given q ne n p = elim (zero_or_more (times q u)) [
    | inl z ↦ r₂.others q ne n z ∙ r₁.given q z p
    | inr z ↦ r₂.given q n z
  ]

  then_others : (q : ℕ) → q ≢ block → times q v ≡ 0 → times q t ≡ 0 → get new q ≡ get old q
  then_others q ne n k = elim (zero_or_more (times q u)) [
    | inl z ↦ r₂.others q ne n z ∙ r₁.others q ne z k
    | inr z ↦ r₂.given q n z ∙ sym ((r₁.taken q z k).0)
  ]

  pub replaces_then : times block t ≡ 0 → Replaces old new block at t v
  replaces_then apart = record {
    live = r₂.live;
    written = r₂.written ∙ (ap (λ (x : List ℤ). with_words_at x at (words v)) r₁.written ∙ written_again (words_of old block) at (words u) (words v) (omega arith) (sym f));
    pinned = r₂.pinned ∙ r₁.pinned;
    held = r₂.held;
    taken = then_taken;
    kept = λ q p k. r₂.kept q p (again q p k) ∙ r₁.kept q (again q p k) k;
    given = λ q n p. then_given q (λ is. let x : 0 < times block t = (let P : ℕ → Type 0 = λ x. 0 < times x t in subst P is p) in omega arith) n p;
    others = then_others;
  }

-- what stands behind a part still stands when that part is replaced
pub stands_behind : (old mid : Live) (block at : ℕ) (t₁ t₂ u₁ : Tree) → Stands old block at (t₁ ⊕ t₂) → length (words u₁) ≡ length (words t₁) → Replaces old mid block at t₁ u₁ → Stands mid block (at + length (words t₁)) t₂
stands_behind old mid block at t₁ t₂ u₁ s e r =
    let back = stands_back old block at t₁ t₂ s in
    let w = s.within in
    let len = size-append t₁ t₂ in
    let fit : at + length (words u₁) ≤ length (words_of old block) = omega arith in
    let same : length (words_of mid block) ≡ length (words_of old block) = ap length r.written ∙ length-written (words_of old block) at (words u₁) fit in
    record {
      live = r.live;
      within = let b = back.within in omega arith;
      there =
          ap (λ (x : List ℤ). take (length (words t₂)) (drop (at + length (words t₁)) x)) r.written
          ∙ (ap (λ (n : ℕ). take (length (words t₂)) (drop (at + n) (with_words_at (words_of old block) at (words u₁)))) (sym e)
          ∙ (behind_written (words_of old block) at (length (words t₂)) (words u₁) (omega arith)
          ∙ (ap (λ (n : ℕ). take (length (words t₂)) (drop (at + n) (words_of old block))) e ∙ back.there)));
      held = held-same old mid t₂ (λ q p.
          let once = s.once q in
          let apart = s.apart in
          let a = times-append q t₁ t₂ in
          let ne : q ≢ block = λ is. let x : 0 < times block (t₁ ⊕ t₂) = (let P : ℕ → Type 0 = λ x. 0 < times x (t₁ ⊕ t₂) in subst P is (omega arith)) in omega arith in
          let n : times q t₁ ≡ 0 = omega arith in
          elim (zero_or_more (times q u₁)) [
            | inl z ↦ r.others q ne z n
            | inr z ↦ absurd (not_dead old q (held-live old q t₂ back.held p) ((r.taken q z n).0))
          ]) back.held;
      once = back.once;
      apart = back.apart;
    }

-- what was put there stands there
pub stands_replaced : (old new : Live) (block at : ℕ) (t u : Tree) → Stands old block at t → length (words u) ≡ length (words t) → Replaces old new block at t u → ((q : ℕ) → times q u ≤ 1) → Stands new block at u
stands_replaced old new block at t u s e r once =
    let w = s.within in
    let fit : at + length (words u) ≤ length (words_of old block) = omega arith in
    let same : length (words_of new block) ≡ length (words_of old block) = ap length r.written ∙ length-written (words_of old block) at (words u) fit in
    record {
      live = r.live;
      within = omega arith;
      there = ap (λ (x : List ℤ). take (length (words u)) (drop at x)) r.written ∙ written_there (words_of old block) at (words u) (omega arith);
      held = r.held;
      once = once;
      apart = elim (zero_or_more (times block u)) [
        | inl z ↦ z
        | inr z ↦ absurd (not_dead old block s.live ((r.taken block z s.apart).0))
      ];
    }

-- what stands elsewhere is not touched
pub stands_elsewhere : (old new : Live) (from a : ℕ) (t : Tree) (to b : ℕ) (u v : Tree) → Stands old from a t → Replaces old new to b u v → to ≢ from → times to t ≡ 0 → IsBare u → Stands new from a t
stands_elsewhere old new from a t to b u v s r ne apart bare =
    let live : IsLive old from = s.live in
    let untouched : (q : ℕ) → IsLive old q → q ≢ to → get new q ≡ get old q =
    (λ q h n. elim (zero_or_more (times q v)) [
      | inl z ↦ r.others q n z (bare q)
      | inr z ↦ absurd (not_dead old q h ((r.taken q z (bare q)).0))
    ]) in
    let own : get new from ≡ get old from = untouched from live (λ is. ne (sym is)) in
    let same = same_words old new from own in
    record {
      live = same_live old new from own live;
      within = let w = s.within in let l : length (words_of new from) ≡ length (words_of old from) = ap length same in omega arith;
      there = ap (λ (x : List ℤ). take (length (words t)) (drop a x)) same ∙ s.there;
      held = held-same old new t (λ q p. untouched q (held-live old q t s.held p) (λ is. let x : 0 < times to t = (let P : ℕ → Type 0 = λ x. 0 < times x t in subst P is p) in omega arith)) s.held;
      once = s.once;
      apart = s.apart;
    }
