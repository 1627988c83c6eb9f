-- MOVE_ALLOC has two allocatables of one kind where it breaks no rule.
use Rattle.std.proofs.Common.{◌≡◌, ℕ, zero, suc, Bool, true, false, ◌&&◌, ◌||◌, not, List, [], ◌∷◌, Option, Some, None, refl, sym, ap, ◌∙◌, if◌then◌else◌}
use Rattle.std.specs.Prelude.{nat_eq, slice_get, ◌==◌}
use Rattle.std.specs.List.{list_any}
use mathlib.Core.Path.{subst}
use Rattle.f3_tree.specs.declared.expression.Name.{Name}
use Rattle.f3_kinds.specs.declared.said.Has.{Has}
use Rattle.f3_kinds.specs.declared.said.Said.{Said}
use Rattle.f3_kinds.specs.declared.said.Given.{Given}
use Rattle.f3_kinds.specs.declared.said.Given.TheVariants.{Value}
use Rattle.f3_kinds.specs.declared.things.Dummy.{Dummy}
use Rattle.f3_kinds.specs.Things.{map_or}
use Rattle.f3_kinds.specs.Rows.{has_type}
use Rattle.f3_kinds.specs.Calls.{no_match, match_next, added, argument_fits, is_free, place_for, has_fits_dummy}
use Rattle.f3_type_rules.specs.Statements.{allocatable_as, two_dummies, given_at, moving_dummies}
use Rattle.f3_elaboration.specs.Context.{Surroundings, base}
use Rattle.f3_elaboration.specs.Actions.{kind_by}
use Rattle.f3_lawful_laws.proofs.Facts.{no, both, left, right, otherwise, nothing, same, when_true}
use Rattle.f3_lawful_laws.proofs.Positions.{eq_self, eq_same}
use Rattle.f3_lawful_laws.proofs.Passing.{Fits, fits_by, known_same}
use Rattle.f3_formed_laws.proofs.Holding as Holding

-- where the dummy at a place of two is
data AtTwo (a b d : ℕ × Dummy) (k : ℕ) : Type 0 where
  at_first : k ≡ 0 → d ≡ a → AtTwo a b d k
  at_second : k ≡ 1 → d ≡ b → AtTwo a b d k

at_two : (a b d : ℕ × Dummy) (k : ℕ) → slice_get (a ∷ b ∷ []) k ≡ Some d → AtTwo a b d k
at_two a b d zero e = at_first refl (sym (same e))
at_two a b d (suc zero) e = at_second refl (sym (same e))
at_two a b d (suc (suc k)) e = nothing e

place_kept : (names : ℕ × ℕ) (a b : Option Has) (i : ℕ) (l : Option Name) (y : Said) → place_for (two_dummies names None None) i (Value l y) ≡ place_for (two_dummies names a b) i (Value l y)
place_kept names a b i None y = refl
place_kept names a b i (Some k) y = refl

-- what is given for an allocatable dummy is allocatable, and of its kind
pub moved : (o h : Option Has) → has_type h ≡ true → has_fits_dummy (allocatable_as o).object h ≡ true → map_or false (λ (h : Has). h.is_allocatable && has_type (Some h)) h ≡ true
moved o None t e = no (sym t)
moved o (Some h) t e = both _ _ (left _ _ (left _ _ (otherwise (not (has_type (Some h))) _ e (ap not t)))) t

abbrev pub is_allocatable_of : Option Has → Bool
is_allocatable_of o = map_or false (λ (h : Has). h.is_allocatable && has_type (Some h)) o

module _ (s : Surroundings) where
  kinds_moved : (o h : Option Has) → is_allocatable_of o ≡ true → is_allocatable_of h ≡ true → has_fits_dummy (allocatable_as o).object h ≡ true → kind_by s o ≡ kind_by s h
  kinds_moved None h a b e = no (sym a)
  kinds_moved (Some o) None a b e = no (sym b)
  kinds_moved (Some o) (Some h) a b e =
      let t : has_type (Some o) ≡ true = right o.is_allocatable _ a in
      let u : has_type (Some h) ≡ true = right h.is_allocatable _ b in
      let fits = otherwise (not (has_type (Some h))) _ e (ap not u) in
      Holding.kind_by (kind_by s (Some o)) (base s h.data_type) h.rank h.is_allocatable (known_same s.type o.data_type h.data_type t u (right (h.is_allocatable && (h.rank == o.rank)) _ fits))
      (sym (eq_same h.rank o.rank (right h.is_allocatable _ (left _ _ fits)))) (left o.is_allocatable _ a ∙ sym (left h.is_allocatable _ b))

  module _ (names : ℕ × ℕ) (l1 : Option Name) (y1 : Said) (l2 : Option Name) (y2 : Said) where
    abbrev both_given : List Given
    both_given = Value l1 y1 ∷ Value l2 y2 ∷ []

    abbrev from : Option Has
    from = given_at names 0 0 both_given

    abbrev to : Option Has
    to = if is_allocatable_of from then from else given_at names 1 0 both_given

    abbrev dummies : List (ℕ × Dummy)
    dummies = moving_dummies names both_given

    -- both are allocatable, and of one kind
    pub record Alike : Type 0 where
      pub first : is_allocatable_of y1.has ≡ true
      pub second : is_allocatable_of y2.has ≡ true
      pub kinds : kind_by s y1.has ≡ kind_by s y2.has

    taken_once : (k1 k2 : ℕ) → argument_fits dummies 1 (Value l2 y2) (match_next dummies 0 (Value l1 y1) no_match) ≡ true
        → place_for dummies 0 (Value l1 y1) ≡ Some k1 → place_for dummies 1 (Value l2 y2) ≡ Some k2 → not (list_any (nat_eq k2) (k1 ∷ [])) ≡ true
    taken_once k1 k2 r p1 p2 =
        let free : is_free dummies (added [] (place_for dummies 0 (Value l1 y1))) (Value l2 y2) (place_for dummies 1 (Value l2 y2)) ≡ true = right _ _ r in
        ap (λ o. not (list_any (nat_eq k2) (added [] o))) (sym p1)
        ∙ left _ _ (subst (λ o. is_free dummies (added [] (place_for dummies 0 (Value l1 y1))) (Value l2 y2) o ≡ true) p2 free)

    in_order : has_type y1.has ≡ true → has_type y2.has ≡ true → place_for dummies 0 (Value l1 y1) ≡ Some 0
        → has_fits_dummy (allocatable_as from).object y1.has ≡ true → has_fits_dummy (allocatable_as to).object y2.has ≡ true → Alike
    in_order t1 t2 p1 f1 f2 =
        let from_is : from ≡ y1.has =
        ap (λ o. if map_or false (nat_eq 0) o then y1.has else given_at names 0 1 (Value l2 y2 ∷ [])) (place_kept names from to 0 l1 y1 ∙ p1) in
        let good : is_allocatable_of y1.has ≡ true = moved from y1.has t1 f1 in
        let to_is : to ≡ y1.has = ap (λ o. if is_allocatable_of o then o else given_at names 1 0 both_given) from_is ∙ when_true (is_allocatable_of y1.has) _ _ good in
        let other : is_allocatable_of y2.has ≡ true = moved to y2.has t2 f2 in
        record {
          first = good;
          second = other;
          kinds = kinds_moved y1.has y2.has good other (subst (λ o. has_fits_dummy (allocatable_as o).object y2.has ≡ true) to_is f2);
        }

    turned : has_type y1.has ≡ true → has_type y2.has ≡ true → place_for dummies 0 (Value l1 y1) ≡ Some 1 → place_for dummies 1 (Value l2 y2) ≡ Some 0
        → has_fits_dummy (allocatable_as to).object y1.has ≡ true → has_fits_dummy (allocatable_as from).object y2.has ≡ true → Alike
    turned t1 t2 p1 p2 f1 f2 =
        let from_is : from ≡ y2.has =
        ap (λ o. if map_or false (nat_eq 0) o then y1.has else given_at names 0 1 (Value l2 y2 ∷ [])) (place_kept names from to 0 l1 y1 ∙ p1)
        ∙ ap (λ o. if map_or false (nat_eq 0) o then y2.has else None) (place_kept names from to 1 l2 y2 ∙ p2) in
        let good : is_allocatable_of y2.has ≡ true = moved from y2.has t2 f2 in
        let to_is : to ≡ y2.has = ap (λ o. if is_allocatable_of o then o else given_at names 1 0 both_given) from_is ∙ when_true (is_allocatable_of y2.has) _ _ good in
        let other : is_allocatable_of y1.has ≡ true = moved to y1.has t1 f1 in
        record {
          first = other;
          second = good;
          kinds = sym (kinds_moved y2.has y1.has good other (subst (λ o. has_fits_dummy (allocatable_as o).object y1.has ≡ true) to_is f1));
        }

    pub alike_moved : has_type y1.has ≡ true → has_type y2.has ≡ true → argument_fits dummies 0 (Value l1 y1) no_match ≡ true
        → argument_fits dummies 1 (Value l2 y2) (match_next dummies 0 (Value l1 y1) no_match) ≡ true → Alike
    alike_moved t1 t2 r1 r2 =
        let f1 : Fits dummies 0 (Value l1 y1) = fits_by dummies 0 (Value l1 y1) no_match r1 in
        let f2 : Fits dummies 1 (Value l2 y2) = fits_by dummies 1 (Value l2 y2) (match_next dummies 0 (Value l1 y1) no_match) r2 in
        go f1.number f2.number f1.dummy f2.dummy f1.place f2.place f1.fits f2.fits
        (at_two (names.0, allocatable_as from) (names.1, allocatable_as to) f1.dummy f1.number f1.there)
        (at_two (names.0, allocatable_as from) (names.1, allocatable_as to) f2.dummy f2.number f2.there)
      where
        once : (k : ℕ) → place_for dummies 0 (Value l1 y1) ≡ Some k → place_for dummies 1 (Value l2 y2) ≡ Some k → ⊥
        once k p1 p2 = no (sym (taken_once k k r2 p1 p2) ∙ ap (λ b. not (b || false)) (eq_self k))

        go : (k1 k2 : ℕ) (d1 d2 : ℕ × Dummy) → place_for dummies 0 (Value l1 y1) ≡ Some k1 → place_for dummies 1 (Value l2 y2) ≡ Some k2
            → has_fits_dummy (d1.1).object y1.has ≡ true → has_fits_dummy (d2.1).object y2.has ≡ true
            → AtTwo (names.0, allocatable_as from) (names.1, allocatable_as to) d1 k1 → AtTwo (names.0, allocatable_as from) (names.1, allocatable_as to) d2 k2 → Alike
        go k1 k2 d1 d2 p1 p2 f1 f2 (at_first e1 h1) (at_second e2 h2) =
            in_order t1 t2 (p1 ∙ ap (λ k. Some k) e1) (subst (λ (d : ℕ × Dummy). has_fits_dummy (d.1).object y1.has ≡ true) h1 f1)
            (subst (λ (d : ℕ × Dummy). has_fits_dummy (d.1).object y2.has ≡ true) h2 f2)
        go k1 k2 d1 d2 p1 p2 f1 f2 (at_second e1 h1) (at_first e2 h2) =
            turned t1 t2 (p1 ∙ ap (λ k. Some k) e1) (p2 ∙ ap (λ k. Some k) e2) (subst (λ (d : ℕ × Dummy). has_fits_dummy (d.1).object y1.has ≡ true) h1 f1)
            (subst (λ (d : ℕ × Dummy). has_fits_dummy (d.1).object y2.has ≡ true) h2 f2)
        go k1 k2 d1 d2 p1 p2 f1 f2 (at_first e1 h1) (at_first e2 h2) = absurd (once 0 (p1 ∙ ap (λ k. Some k) e1) (p2 ∙ ap (λ k. Some k) e2))
        go k1 k2 d1 d2 p1 p2 f1 f2 (at_second e1 h1) (at_second e2 h2) = absurd (once 1 (p1 ∙ ap (λ k. Some k) e1) (p2 ∙ ap (λ k. Some k) e2))
