-- What a free block's words tell where it is cut.
use Rattle.std.proofs.Common.{◌≡◌, ◌≢◌, ℕ, ℤ, pos, ◌+◌, ◌-◌, ◌%◌, ◌<◌, ◌≤◌, cond, nat_eq, List, [], ◌∷◌, length, get_or, refl, sym, ap, subst, ◌∙◌, arith, ◌⊎◌, inl, inr}
use mir.Syntax.{w64}
use Rattle.std.specs.Int.{cast_unsigned}
use Rattle.f3_heap_laws.specs.Placed.{extent}
use Rattle.f3_heap_laws.specs.Segments.{Segment, Used, Free, seg_size, seg_block, first_free, last_free, AreValid, Lays, FitsAt, free_size_of, Cuts, with_next, with_prev, freed}
use Rattle.f3_heap_laws.proofs.Segs.{AreValid-back}
use Rattle.f3_heap_laws.proofs.Relink.{last-within}
use Rattle.f3_heap_laws.proofs.BlockReads.{free-head, free-next, free-prev, free-within, end-within, split-ends}
use Rattle.f3_heap_laws.proofs.Surgery.{carve-exact, carve-split}

three_one : (n : ℕ) → (n + 3) + 1 ≡ n + 4
three_one n = omega arith

module _ (none n : ℕ) (segs : List Segment) (ws : List ℤ) (first end at : ℕ) (h : Lays none segs ws first end) (fits : end ≤ none) (f : FitsAt n segs at) where
  pub run-is : free_size_of (get_or ws at (pos 0)) ≡ length f.junk + 4
  run-is = ap free_size_of (free-head none segs ws first end h f.front f.junk f.back at f.split f.place) ∙ three_one (length f.junk)

  pub next-is : cast_unsigned w64 (get_or ws (at + 1) (pos 0)) ≡ first_free none (at + (length f.junk + 4)) f.back
  next-is = ap (cast_unsigned w64) (free-next none segs ws first end h f.front f.junk f.back at f.split f.place)

  pub prev-is : cast_unsigned w64 (get_or ws (at + 2) (pos 0)) ≡ last_free none 0 f.front
  prev-is = ap (cast_unsigned w64) (free-prev none segs ws first end h f.front f.junk f.back at f.split f.place)

  pub run-within : at + (length f.junk + 4) ≤ end
  run-within = free-within none segs ws first end h f.front f.junk f.back at f.split f.place

  pub words-within : end ≤ length ws
  words-within = end-within none segs ws first end h

  sums : end ≡ at + (length f.junk + 4) + extent seg_block seg_size f.back
  sums = omega (arith, split-ends none segs ws first end h f.front (Free f.junk ∷ f.back) f.split, f.place)

  pub prev-in : (last_free none 0 f.front ≡ none) ⊎ (last_free none 0 f.front + 4 ≤ at)
  prev-in = elim (last-within none f.front 0 0 [] (omega (arith, sums, f.place))) [ inl e ↦ inl e | inr le ↦ inr (omega (arith, f.place)) ]

  at_most : (p : ℕ) (ys : List Segment) → p + extent seg_block seg_size ys ≤ end → (first_free none p ys ≡ none) ⊎ (first_free none p ys + 4 ≤ end)
  at_most p [] k = inl refl
  at_most p (Used c pins ∷ ys) k = at_most (p + seg_size (Used c pins)) ys (omega arith)
  at_most p (Free junk ∷ ys) k = inr (omega arith)

  pub next-in : (first_free none (at + (length f.junk + 4)) f.back ≡ none) ⊎ (first_free none (at + (length f.junk + 4)) f.back + 4 ≤ end)
  next-in = at_most (at + (length f.junk + 4)) f.back (omega (arith, sums))

  pub fours : length f.junk % 4 ≡ 0
  fours = (AreValid-back f.front (Free f.junk ∷ f.back) (subst AreValid f.split h.valid)).0

  module _ (run next prev : ℕ) (er : run ≡ free_size_of (get_or ws at (pos 0))) (en : next ≡ cast_unsigned w64 (get_or ws (at + 1) (pos 0))) (ep : prev ≡ cast_unsigned w64 (get_or ws (at + 2) (pos 0))) where
    run_len : run ≡ length f.junk + 4
    run_len = er ∙ run-is

    pub prev-within : prev ≢ none → prev + 4 ≤ at
    prev-within ne = elim prev-in [ inl e ↦ absurd (ne (ep ∙ prev-is ∙ e)) | inr le ↦ omega (arith, ep, prev-is) ]

    pub next-within : next ≢ none → next + 4 ≤ end
    next-within ne = elim next-in [ inl e ↦ absurd (ne (en ∙ next-is ∙ e)) | inr le ↦ omega (arith, en, next-is) ]

    pub prev-most : prev ≤ none
    prev-most = elim prev-in [ inl e ↦ omega (arith, ep, prev-is) | inr le ↦ omega (arith, ep, prev-is, run-within) ]

    pub next-most : next ≤ none
    next-most = elim next-in [ inl e ↦ omega (arith, en, next-is) | inr le ↦ omega (arith, en, next-is) ]

    pub run-most : at + run ≤ end
    run-most = omega (arith, run-within, run_len)

    pub run-wide : n ≤ run
    run-wide = omega (arith, f.wide, run_len)

    pub rest-four : n % 4 ≡ 0 → n < run → 4 ≤ run - n
    rest-four four lt = omega (arith, fours, run_len)

    pub cut-split : (new : List ℤ) (first' : ℕ) → n % 4 ≡ 0 → n < run → new ≡ with_prev (with_next (freed ws (at + n) (run - n) next prev) none prev (at + n)) none next (at + n) → first' ≡ cond (nat_eq prev none) (at + n) first → Cuts none n segs at first' end new
    cut-split new first' four lt e ef =
        subst (λ (k : ℕ). Cuts none n segs at k end new) (sym ef)
        (subst (λ (z : List ℤ). Cuts none n segs at (cond (nat_eq prev none) (at + n) first) end z)
        (ap (λ k. with_prev (with_next (freed ws (at + n) (k - n) next prev) none prev (at + n)) none next (at + n)) (sym run_len) ∙ sym e)
        (carve-split none n segs ws first end at prev next h fits f (ep ∙ prev-is) (en ∙ next-is) (omega (arith, run_len)) four fours))

    pub cut-exact : (new : List ℤ) (first' : ℕ) → run ≤ n → new ≡ with_prev (with_next ws none prev next) none next prev → first' ≡ cond (nat_eq prev none) next first → Cuts none n segs at first' end new
    cut-exact new first' le e ef =
        subst (λ (k : ℕ). Cuts none n segs at k end new) (sym ef)
        (subst (λ (z : List ℤ). Cuts none n segs at (cond (nat_eq prev none) next first) end z) (sym e)
        (carve-exact none n segs ws first end at prev next h fits f (ep ∙ prev-is) (en ∙ next-is) (omega (arith, run_len, f.wide))))
