-- A run of blocks becomes one free block, or joins the words behind all blocks.
use Rattle.std.proofs.Common.{◌≡◌, ℕ, ℤ, pos, ◌+◌, ◌%◌, ◌≤◌, true, cond, nat_eq, List, [], ◌∷◌, ◌++◌, length, set, refl, sym, ap, subst, ◌∙◌, arith, append-nil}
use Rattle.std.proofs.lemmas.Bool.Decides.{nat_tests}
use Rattle.f3_heap_laws.specs.Placed.{extent}
use Rattle.f3_heap_laws.specs.Segments.{Segment, Used, Free, seg_size, seg_block, free_words, first_free, last_free, cells, AreValid, Lays, with_next, with_prev, freed, Around}
use Rattle.f3_heap_laws.proofs.Segs.{seg_positive, r-above, r-fours}
use Rattle.f3_heap_laws.proofs.BlockReads.{seg-extent-append}
use Rattle.f3_heap_laws.proofs.Surgery.{FourUp, four_up, lay-parts, mid, after, behind, mid-length, links-laid, freed-laid, links-first, parts-end, parts-valid}

same_test : (n : ℕ) → nat_eq n n ≡ true
same_test n = grind (arith, nat_tests)

valid_fours : (s : Segment) → AreValid (s ∷ []) → seg_size s % 4 ≡ 0
valid_fours (Used ws pins) v = r-fours (length ws)
valid_fours (Free junk) v = omega (arith, v.0)

pub extent-fours : (ss : List Segment) → AreValid ss → extent seg_block seg_size ss % 4 ≡ 0
extent-fours [] v = refl
extent-fours (s ∷ ss) v = omega (arith, valid_fours s (v.0, tt), extent-fours ss v.1)

empty_of_extent : (ss : List Segment) → extent seg_block seg_size ss ≡ 0 → ss ≡ []
empty_of_extent [] e = refl
empty_of_extent (s ∷ ss) e = absurd (omega (arith, seg_positive s))

module _ (none : ℕ) (segs : List Segment) (ws : List ℤ) (first end block at size prev next : ℕ) (h : Lays none segs ws first end) (fits : end ≤ none) (g : Around none segs block at size prev next) where
  abbrev pub joined : List Segment
  joined = g.lefts ++ Used g.content g.pins ∷ g.rights

  joined_size : size ≡ length (mid none segs ws first end h g.front joined g.back g.split)
  joined_size = g.sizes ∙ sym (mid-length none segs ws first end h g.front joined g.back g.split)

  pub joined-four : 4 ≤ size
  joined-four = omega (arith, g.sizes, seg-extent-append g.lefts (Used g.content g.pins ∷ g.rights), r-above (length g.content))

  next_is : next ≡ after none segs ws first end h g.front joined g.back g.split
  next_is = g.behind ∙ ap (λ k. first_free none k g.back) (omega (arith, g.place, g.sizes))

  pub run-end : end ≡ (at + size) + extent seg_block seg_size g.back
  run-end = omega (arith, parts-end none segs ws first end h g.front joined g.back g.split, g.place, g.sizes)

  -- as one free block
  pub give-free : FourUp (mid none segs ws first end h g.front joined g.back g.split)
  give-free = four_up (mid none segs ws first end h g.front joined g.back g.split) (omega (arith, joined-four, joined_size))

  pub give-laid : Lays none (g.front ++ (Free give-free.junk ∷ g.back)) (with_prev (with_next (freed ws at size next prev) none prev at) none next at) (cond (nat_eq prev none) at first) end
  give-laid =
      let parts = parts-valid none segs ws first end h g.front joined g.back g.split in
      let z = behind none segs ws first end h g.front joined g.back g.split in
      let words : with_prev (with_next (freed ws at size next prev) none prev at) none next at ≡ cells none at 0 g.front ++ ((free_words give-free.junk next prev ++ []) ++ (cells at none z g.back ++ h.rest)) =
      (λ i. with_prev (with_next (freed ws at size next prev) none (g.before i) at) none (next_is i) at)
      ∙ freed-laid none segs ws first end h g.front joined g.back g.split fits [] (mid none segs ws first end h g.front joined g.back g.split) give-free at size next prev at at refl (omega (arith, g.place)) joined_size
      ∙ ap (λ t. cells none at 0 g.front ++ (t ++ (cells at none z g.back ++ h.rest))) (sym (append-nil (free_words give-free.junk next prev))) in
      subst (λ (t : List ℤ). Lays none (g.front ++ (Free give-free.junk ∷ g.back)) t (cond (nat_eq prev none) at first) end) (sym words)
      (lay-parts none g.front (Free give-free.junk ∷ []) g.back h.rest at z next prev at at (cond (nat_eq prev none) at first) end g.place (omega (arith, g.place, g.sizes, joined_size, give-free.len)) g.before next_is refl refl
      (ap (λ p. cond (nat_eq p none) at first) g.before ∙ links-first none segs ws first end h g.front joined g.back g.split fits at)
      (parts-end none segs ws first end h g.front joined g.back g.split) parts.0
      (omega (arith, extent-fours joined parts.1, g.sizes, joined_size, give-free.len), tt) parts.2)

  -- behind all blocks
  module _ (last : at + size ≡ end) where
    pub nothing-behind : g.back ≡ []
    nothing-behind = empty_of_extent g.back (omega (arith, run-end))

    none_next : after none segs ws first end h g.front joined g.back g.split ≡ none
    none_next = ap (first_free none (behind none segs ws first end h g.front joined g.back g.split)) nothing-behind

    pub give-end : Lays none g.front (with_next ws none prev none) (cond (nat_eq prev none) none first) at
    give-end =
        let parts = parts-valid none segs ws first end h g.front joined g.back g.split in
        let z = behind none segs ws first end h g.front joined g.back g.split in
        let m = mid none segs ws first end h g.front joined g.back g.split in
        record {
          rest = m ++ (cells 0 none z g.back ++ h.rest);
          laid = ap (λ p. with_next ws none p none) g.before
              ∙ sym (ap (λ t. cond t (with_next ws none (last_free none 0 g.front) none) (set (with_next ws none (last_free none 0 g.front) none) (none + 2) (pos 0))) (same_test none))
              ∙ ap (λ k. with_prev (with_next ws none (last_free none 0 g.front) none) none k 0) (sym none_next)
              ∙ links-laid none segs ws first end h g.front joined g.back g.split fits none 0;
          begins = ap (λ p. cond (nat_eq p none) none first) g.before ∙ links-first none segs ws first end h g.front joined g.back g.split fits none;
          ends = g.place;
          valid = parts.0;
        }
