-- What was seen of spans, and one span more.
use Rattle.std.proofs.Common.{◌≡◌, ◌↔◌, IsTrue, refl, ℕ, ◌+◌, ◌<◌, length, drop, get_or, map, ℤ, pos, negsuc, ◌≤ℤ◌, FitsSigned, ◌⊎◌, inl, inr, ⊎_elim, Bool, true, false, not, ◌||◌, ◌&&◌, Option, None, Some, List, [], ◌∷◌, ap, ◌∙◌, sym, subst, arith}
use Rattle.std.specs.Int.{w64}
use Rattle.std.specs.Int.RustNames.{int_le}
use Rattle.std.specs.List.{list_any}
use Rattle.std.proofs.lemmas.Int.{ints}
use Rattle.std.proofs.lemmas.List.{at_drop_more}
use Rattle.f3_rules.specs.declared.rule.Rule.TheVariants.{T11}
use Rattle.f3_rules.specs.declared.breaks.Break.{Break}
use Rattle.f3_kinds.specs.Rows.{at_place, unless}
use Rattle.f3_type_rules.specs.Cases.{Span, no_span, numbers, truths, is_at_most, meets}
use Rattle.f3_typed_parts.specs.Noted.{noted}
use Rattle.f3_typed_parts.proofs.Noting.{noted_more}
use Rattle.f3_cases.specs.declared.spans.Held.{Held}
use Rattle.f3_cases.specs.Inner.Spans.{span_view, held_view, overlaps}
use Rattle.f3_cases.specs.Inner.Ranges.{Reaches, IsGrown}
use Rattle.f3_cases.specs.Inner.Seen.{low_end, high_end, IsStored, AreStored, meets_between, Sees}
use Rattle.f3_cases.proofs.Numbers.{true_le, le_true}

pub none_meets : (spans : List Span) → false ≡ list_any (meets no_span) spans
none_meets [] = refl
none_meets (s ∷ ss) = none_meets ss

-- ---- a range without an end goes as far as the numbers that there are

least_le : (y : ℤ) → FitsSigned w64 y → negsuc 9223372036854775807 ≤ℤ y
least_le y f = omega (arith, ints)

le_greatest : (z : ℤ) → FitsSigned w64 z → z ≤ℤ pos 9223372036854775807
le_greatest z f = omega (arith, ints)

closed_low : (a y : Option ℤ) → FitsSigned w64 (high_end y) → is_at_most a y ≡ is_at_most (Some (low_end a)) y
closed_low (Some z) y f = refl
closed_low None None f = refl
closed_low None (Some y) f = sym (le_true (negsuc 9223372036854775807) y (least_le y f))

closed_high : (z b : Option ℤ) → FitsSigned w64 (low_end z) → is_at_most z b ≡ is_at_most z (Some (high_end b))
closed_high z (Some b) f = refl
closed_high None None f = refl
closed_high (Some z) None f = sym (le_true z (pos 9223372036854775807) (le_greatest z f))

closed_meets : (a b : Option ℤ) (s : Span) → IsStored s → meets (numbers a b) s ≡ meets (numbers (Some (low_end a)) (Some (high_end b))) s
closed_meets a b no_span f = refl
closed_meets a b (truths t) f = refl
closed_meets a b (numbers z y) f = ap (λ x. x && is_at_most z b) (closed_low a y f.1) ∙ ap (λ x. is_at_most (Some (low_end a)) y && x) (closed_high z b f.0)

closed_any : (a b : Option ℤ) (spans : List Span) → AreStored spans → list_any (meets (numbers a b)) spans ≡ meets_between (low_end a) (high_end b) spans
closed_any a b [] f = refl
closed_any a b (s ∷ ss) f = ap (λ x. x || list_any (meets (numbers a b)) ss) (closed_meets a b s f.0) ∙ ap (λ x. meets (numbers (Some (low_end a)) (Some (high_end b))) s || x) (closed_any a b ss f.1)

at_span : (z y : ℤ) (a b : Option ℤ) → FitsSigned w64 z → FitsSigned w64 y → meets (numbers (Some z) (Some y)) (numbers a b) ≡ (int_le z (high_end b) && int_le (low_end a) y)
at_span z y a b f g = ap (λ x. x && is_at_most a (Some y)) (closed_high (Some z) b f) ∙ ap (λ x. int_le z (high_end b) && x) (closed_low a (Some y) g)

-- ---- tests

same_test : (r s : Bool) → (r ≡ true → s ≡ true) → (s ≡ true → r ≡ true) → r ≡ s
same_test true s to from = sym (to refl)
same_test false true to from = from refl
same_test false false to from = refl

both_true : (a b : Bool) → a ≡ true → b ≡ true → (a && b) ≡ true
both_true a b p q = ap (λ x. x && b) p ∙ q

parts_true : (a b : Bool) → (a && b) ≡ true → (a ≡ true) × (b ≡ true)
parts_true true b p = (refl, p)
parts_true false b p = cc

first_true : (a b : Bool) → a ≡ true → (a || b) ≡ true
first_true a b p = ap (λ x. x || b) p

second_true : (a b : Bool) → b ≡ true → (a || b) ≡ true
second_true true b p = refl
second_true false b p = p

one_true : (a b : Bool) → (a || b) ≡ true → (a ≡ true) ⊎ (b ≡ true)
one_true true b p = inl refl
one_true false b p = inr p

-- ---- what was seen

reaches_seen : (spans : List Span) (g : ℤ → Option ℤ) (t f r : Bool) (a b : Option ℤ) → FitsSigned w64 (low_end a) → FitsSigned w64 (high_end b) → Sees spans g t f
    → (IsTrue r ↔ Reaches g (low_end a) (high_end b)) → r ≡ list_any (meets (numbers a b)) spans
reaches_seen spans g t f r a b low high sees h =
    same_test r (meets_between (low_end a) (high_end b) spans) (λ yes. sees.reached (low_end a) (high_end b) low high (h.0 yes)) (λ yes. h.1 (sees.met (low_end a) (high_end b) low high yes))
    ∙ sym (closed_any a b spans sees.stored)

reaches_wider : (g : ℤ → Option ℤ) (z y z' y' : ℤ) → Reaches g z y → y ≤ℤ y' → z' ≤ℤ z → Reaches g z' y'
reaches_wider g z y z' y' reach le le' =
    let begins : reach.first ≤ℤ y = reach.begins in
    let ends : z ≤ℤ reach.last = reach.ends in
    record { first = reach.first; last = reach.last; there = reach.there; begins = omega (arith, ints); ends = omega (arith, ints) }

numbers_seen : (spans : List Span) (g after : ℤ → Option ℤ) (t f : Bool) (a b : Option ℤ) → FitsSigned w64 (low_end a) → FitsSigned w64 (high_end b)
    → IsGrown g after (low_end a) (high_end b) → Sees spans g t f → Sees (numbers a b ∷ spans) after t f
numbers_seen spans g after t f a b low high grown sees = record {
  stored = ((low, high), sees.stored);
  rising = grown.rising;
  reached = λ z y p q reach. ⊎_elim
      (λ (old : g reach.first ≡ Some reach.last).
      second_true (meets (numbers (Some z) (Some y)) (numbers a b)) _ (sees.reached z y p q (record { first = reach.first; last = reach.last; there = old; begins = reach.begins; ends = reach.ends })))
      (λ (new : (reach.first ≡ low_end a) × (reach.last ≡ high_end b)).
      let begins : reach.first ≤ℤ y = reach.begins in
      let ends : z ≤ℤ reach.last = reach.ends in
      let e : reach.first ≡ low_end a = new.0 in
      let e' : reach.last ≡ high_end b = new.1 in
      first_true _ (meets_between z y spans) (at_span z y a b p q ∙ both_true _ _ (le_true z (high_end b) (subst (λ (x : ℤ). z ≤ℤ x) e' ends)) (le_true (low_end a) y (subst (λ (x : ℤ). x ≤ℤ y) e begins))))
      (grown.old reach.first reach.last reach.there);
  met = λ z y p q yes. ⊎_elim
      (λ (one : meets (numbers (Some z) (Some y)) (numbers a b) ≡ true).
      let tests = parts_true _ _ (sym (at_span z y a b p q) ∙ one) in
      let ends : z ≤ℤ high_end b = true_le z (high_end b) tests.0 in
      let begins : low_end a ≤ℤ y = true_le (low_end a) y tests.1 in
      let n : Reaches after (high_end b) (low_end a) = grown.new in
      reaches_wider after (high_end b) (low_end a) z y n begins ends)
      (λ (others : meets_between z y spans ≡ true).
      let reach : Reaches g z y = sees.met z y p q others in
      let n : Reaches after reach.last reach.first = grown.kept reach.first reach.last reach.there in
      reaches_wider after reach.last reach.first z y n reach.begins reach.ends)
      (one_true (meets (numbers (Some z) (Some y)) (numbers a b)) _ yes);
  truth = sees.truth;
  falsehood = sees.falsehood;
}

-- the same of ends in memory
pub reaches_stored : (spans : List Span) (g : ℤ → Option ℤ) (t f r : Bool) (a b : Option ℤ) (low high : ℤ) → low ≡ low_end a → high ≡ high_end b → FitsSigned w64 low → FitsSigned w64 high
    → Sees spans g t f → (IsTrue r ↔ Reaches g low high) → r ≡ list_any (meets (numbers a b)) spans
reaches_stored spans g t f r a b low high e e' p q sees h =
    reaches_seen spans g t f r a b (subst (λ (x : ℤ). FitsSigned w64 x) e p) (subst (λ (x : ℤ). FitsSigned w64 x) e' q) sees
    (subst (λ (x : ℤ). IsTrue r ↔ Reaches g x (high_end b)) e (subst (λ (x : ℤ). IsTrue r ↔ Reaches g low x) e' h))

pub numbers_stored : (spans : List Span) (g after : ℤ → Option ℤ) (t f : Bool) (a b : Option ℤ) (low high : ℤ) → low ≡ low_end a → high ≡ high_end b → FitsSigned w64 low → FitsSigned w64 high
    → IsGrown g after low high → Sees spans g t f → Sees (numbers a b ∷ spans) after t f
numbers_stored spans g after t f a b low high e e' p q grown sees =
    numbers_seen spans g after t f a b (subst (λ (x : ℤ). FitsSigned w64 x) e p) (subst (λ (x : ℤ). FitsSigned w64 x) e' q)
    (subst (λ (x : ℤ). IsGrown g after x (high_end b)) e (subst (λ (x : ℤ). IsGrown g after low x) e' grown)) sees

-- ---- a loop over values

pub overlaps_more : (spans : List Span) (hs : List Held) (i : ℕ) (d : Held) (met : Bool) (before after whole : Option Break) → i < length hs
    → met ≡ list_any (meets (span_view (get_or hs i d).span)) spans
    → after ≡ noted before (unless (not met) (at_place 6 T11 (get_or hs i d).place))
    → noted before (overlaps spans (map held_view (drop i hs))) ≡ whole
    → noted after (overlaps (span_view (get_or hs i d).span ∷ spans) (map held_view (drop (i + 1) hs))) ≡ whole
overlaps_more spans hs i d met before after whole lt m e h =
    ap (λ x. noted x (overlaps (span_view (get_or hs i d).span ∷ spans) (map held_view (drop (i + 1) hs)))) (e ∙ ap (λ t. noted before (unless (not t) (at_place 6 T11 (get_or hs i d).place))) m)
    ∙ noted_more before _ _
    ∙ sym (at_drop_more (λ xs. noted before (overlaps spans (map held_view xs))) hs i d lt)
    ∙ h
