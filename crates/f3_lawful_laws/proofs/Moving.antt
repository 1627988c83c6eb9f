-- MOVE_ALLOC has two variables of one type where it breaks no rule.
use Rattle.std.proofs.Common.{◌≡◌, ℕ, zero, suc, Bool, true, false, ◌&&◌, ◌||◌, not, List, [], ◌∷◌, Option, Some, None, refl, sym, ap, ◌∙◌, if◌then◌else◌}
use Rattle.std.specs.Prelude.{nat_eq, slice_get}
use Rattle.std.specs.List.{list_any}
use mathlib.Core.Path.{subst}
use Rattle.f3_tree.specs.declared.expression.Name.{Name}
use Rattle.f3_tree.specs.Expressions as t
use Rattle.f3_program.specs.declared.program.Program.{Program}
use Rattle.f3_kinds.specs.declared.said.Has.{Has}
use Rattle.f3_kinds.specs.declared.said.Said.{Said}
use Rattle.f3_kinds.specs.declared.said.Given.{Given}
use Rattle.f3_kinds.specs.declared.said.Given.TheVariants.{Value}
use Rattle.f3_kinds.specs.declared.things.Dummy.{Dummy}
use Rattle.f3_kinds.specs.Things.{map_or}
use Rattle.f3_kinds.specs.Rows.{has_type, unless}
use Rattle.f3_kinds.specs.Operands.{type_in}
use Rattle.f3_kinds.specs.Calls.{no_match, match_next, added, argument_fits, argument_rows, is_free, place_for, has_fits_dummy}
use Rattle.f3_kinds.specs.Typing.{said}
use Rattle.f3_meaning_whole.specs.Permitted.{Scope}
use Rattle.f3_type_rules.specs.Statements.{allocatable_as, two_dummies, given_at, moving_dummies}
use Rattle.f3_type_rules.specs.declared.definition.Holder.{Holder}
use Rattle.f3_type_rules.specs.Definitions.{Site, definition_rows}
use Rattle.f3_elaboration.specs.Nodes as n
use Rattle.f3_elaboration.specs.Nodes.{ExpressionNode, DesignatorNode}
use Rattle.f3_elaboration.specs.Numbers as Numbers
use Rattle.f3_elaboration.specs.Context.{Surroundings, base}
use Rattle.f3_elaboration.specs.Expressions.{expression}
use Rattle.f3_elaboration.specs.Actions.{kind, kind_by, named_by, allocatable}
use Rattle.f3_lawful_laws.specs.Nodes.{designated, NodeDefines, NodeDefinesAs}
use Rattle.f3_lawful_laws.specs.Agreement.{Agrees, Allows}
use Rattle.f3_lawful_laws.proofs.Facts.{no, first, second, holds, both, left, right, otherwise, nothing, same, when_true}
use Rattle.f3_lawful_laws.proofs.Positions.{eq_self}
use Rattle.f3_lawful_laws.proofs.Alike.{IsOf}
use Rattle.f3_lawful_laws.proofs.Passing.{Fits, fits_by, known_same, alike_by, MayChange}
use Rattle.f3_lawful_laws.proofs.Given.{typed_of}
use Rattle.f3_lawful_laws.proofs.Defining.{changes}
use Rattle.f3_lawful_laws.proofs.Variables.{itself_defines, itself_typed}

-- ---- the two dummies

-- where the dummy at a place of two is
data AtTwo (a b d : ℕ × Dummy) (k : ℕ) : Type 0 where
  at_first : k ≡ 0 → d ≡ a → AtTwo a b d k
  at_second : k ≡ 1 → d ≡ b → AtTwo a b d k

at_two : (a b d : ℕ × Dummy) (k : ℕ) → slice_get (a ∷ b ∷ []) k ≡ Some d → AtTwo a b d k
at_two a b d zero e = at_first refl (sym (same e))
at_two a b d (suc zero) e = at_second refl (sym (same e))
at_two a b d (suc (suc k)) e = nothing e

place_kept : (names : ℕ × ℕ) (a b : Option Has) (i : ℕ) (l : Option Name) (y : Said) → place_for (two_dummies names None None) i (Value l y) ≡ place_for (two_dummies names a b) i (Value l y)
place_kept names a b i None y = refl
place_kept names a b i (Some k) y = refl

-- what is given for an allocatable dummy is allocatable, and of its type

moved : (o h : Option Has) → has_type h ≡ true → has_fits_dummy (allocatable_as o).object h ≡ true → map_or false (λ (h : Has). h.is_allocatable && has_type (Some h)) h ≡ true
moved o None t e = no (sym t)
moved o (Some h) t e = both _ _ (left _ _ (left _ _ (otherwise (not (has_type (Some h))) _ e (ap not t)))) t

types_moved : (type : ℕ → ℕ) (o h : Option Has) → has_type o ≡ true → has_type h ≡ true → has_fits_dummy (allocatable_as o).object h ≡ true
    → Numbers.base_by type (type_in o) ≡ Numbers.base_by type (type_in h)
types_moved type None h t u e = no (sym t)
types_moved type (Some o) None t u e = no (sym u)
types_moved type (Some o) (Some h) t u e = known_same type o.data_type h.data_type t u (right _ _ (otherwise (not (has_type (Some h))) _ e (ap not u)))

module _ (type : ℕ → ℕ) (names : ℕ × ℕ) (l1 : Option Name) (y1 : Said) (l2 : Option Name) (y2 : Said) where
  abbrev both_given : List Given
  both_given = Value l1 y1 ∷ Value l2 y2 ∷ []

  abbrev from : Option Has
  from = given_at names 0 0 both_given

  abbrev is_right : Option Has → Bool
  is_right o = map_or false (λ (h : Has). h.is_allocatable && has_type (Some h)) o

  abbrev to : Option Has
  to = if is_right from then from else given_at names 1 0 both_given

  abbrev dummies : List (ℕ × Dummy)
  dummies = moving_dummies names both_given

  taken_once : (k1 k2 : ℕ) → argument_fits dummies 1 (Value l2 y2) (match_next dummies 0 (Value l1 y1) no_match) ≡ true
      → place_for dummies 0 (Value l1 y1) ≡ Some k1 → place_for dummies 1 (Value l2 y2) ≡ Some k2 → not (list_any (nat_eq k2) (k1 ∷ [])) ≡ true
  taken_once k1 k2 r p1 p2 =
      let free : is_free dummies (added [] (place_for dummies 0 (Value l1 y1))) (Value l2 y2) (place_for dummies 1 (Value l2 y2)) ≡ true = right _ _ r in
      ap (λ o. not (list_any (nat_eq k2) (added [] o))) (sym p1)
      ∙ left _ _ (subst (λ o. is_free dummies (added [] (place_for dummies 0 (Value l1 y1))) (Value l2 y2) o ≡ true) p2 free)

  in_order : has_type y1.has ≡ true → has_type y2.has ≡ true → place_for dummies 0 (Value l1 y1) ≡ Some 0
      → has_fits_dummy (allocatable_as from).object y1.has ≡ true → has_fits_dummy (allocatable_as to).object y2.has ≡ true
      → Numbers.base_by type (type_in y1.has) ≡ Numbers.base_by type (type_in y2.has)
  in_order t1 t2 p1 f1 f2 =
      let from_is : from ≡ y1.has =
      ap (λ o. if map_or false (nat_eq 0) o then y1.has else given_at names 0 1 (Value l2 y2 ∷ [])) (place_kept names from to 0 l1 y1 ∙ p1) in
      let good : is_right y1.has ≡ true = moved from y1.has t1 f1 in
      let to_is : to ≡ y1.has = ap (λ o. if is_right o then o else given_at names 1 0 both_given) from_is ∙ when_true (is_right y1.has) _ _ good in
      types_moved type y1.has y2.has t1 t2 (subst (λ o. has_fits_dummy (allocatable_as o).object y2.has ≡ true) to_is f2)

  turned : has_type y1.has ≡ true → has_type y2.has ≡ true → place_for dummies 0 (Value l1 y1) ≡ Some 1 → place_for dummies 1 (Value l2 y2) ≡ Some 0
      → has_fits_dummy (allocatable_as to).object y1.has ≡ true → has_fits_dummy (allocatable_as from).object y2.has ≡ true
      → Numbers.base_by type (type_in y1.has) ≡ Numbers.base_by type (type_in y2.has)
  turned t1 t2 p1 p2 f1 f2 =
      let from_is : from ≡ y2.has =
      ap (λ o. if map_or false (nat_eq 0) o then y1.has else given_at names 0 1 (Value l2 y2 ∷ [])) (place_kept names from to 0 l1 y1 ∙ p1)
      ∙ ap (λ o. if map_or false (nat_eq 0) o then y2.has else None) (place_kept names from to 1 l2 y2 ∙ p2) in
      let good : is_right y2.has ≡ true = moved from y2.has t2 f2 in
      let to_is : to ≡ y2.has = ap (λ o. if is_right o then o else given_at names 1 0 both_given) from_is ∙ when_true (is_right y2.has) _ _ good in
      sym (types_moved type y2.has y1.has t2 t1 (subst (λ o. has_fits_dummy (allocatable_as o).object y1.has ≡ true) to_is f1))

  pub moved_types : has_type y1.has ≡ true → has_type y2.has ≡ true → argument_fits dummies 0 (Value l1 y1) no_match ≡ true
      → argument_fits dummies 1 (Value l2 y2) (match_next dummies 0 (Value l1 y1) no_match) ≡ true
      → Numbers.base_by type (type_in y1.has) ≡ Numbers.base_by type (type_in y2.has)
  moved_types t1 t2 r1 r2 =
      let f1 : Fits dummies 0 (Value l1 y1) = fits_by dummies 0 (Value l1 y1) no_match r1 in
      let f2 : Fits dummies 1 (Value l2 y2) = fits_by dummies 1 (Value l2 y2) (match_next dummies 0 (Value l1 y1) no_match) r2 in
      go f1.number f2.number f1.dummy f2.dummy f1.place f2.place f1.fits f2.fits
      (at_two (names.0, allocatable_as from) (names.1, allocatable_as to) f1.dummy f1.number f1.there)
      (at_two (names.0, allocatable_as from) (names.1, allocatable_as to) f2.dummy f2.number f2.there)
    where
      once : (k : ℕ) → place_for dummies 0 (Value l1 y1) ≡ Some k → place_for dummies 1 (Value l2 y2) ≡ Some k → ⊥
      once k p1 p2 = no (sym (taken_once k k r2 p1 p2) ∙ ap (λ b. not (b || false)) (eq_self k))

      go : (k1 k2 : ℕ) (d1 d2 : ℕ × Dummy) → place_for dummies 0 (Value l1 y1) ≡ Some k1 → place_for dummies 1 (Value l2 y2) ≡ Some k2
          → has_fits_dummy (d1.1).object y1.has ≡ true → has_fits_dummy (d2.1).object y2.has ≡ true
          → AtTwo (names.0, allocatable_as from) (names.1, allocatable_as to) d1 k1 → AtTwo (names.0, allocatable_as from) (names.1, allocatable_as to) d2 k2
          → Numbers.base_by type (type_in y1.has) ≡ Numbers.base_by type (type_in y2.has)
      go k1 k2 d1 d2 p1 p2 f1 f2 (at_first e1 h1) (at_second e2 h2) =
          in_order t1 t2 (p1 ∙ ap (λ k. Some k) e1) (subst (λ (d : ℕ × Dummy). has_fits_dummy (d.1).object y1.has ≡ true) h1 f1)
          (subst (λ (d : ℕ × Dummy). has_fits_dummy (d.1).object y2.has ≡ true) h2 f2)
      go k1 k2 d1 d2 p1 p2 f1 f2 (at_second e1 h1) (at_first e2 h2) =
          turned t1 t2 (p1 ∙ ap (λ k. Some k) e1) (p2 ∙ ap (λ k. Some k) e2) (subst (λ (d : ℕ × Dummy). has_fits_dummy (d.1).object y1.has ≡ true) h1 f1)
          (subst (λ (d : ℕ × Dummy). has_fits_dummy (d.1).object y2.has ≡ true) h2 f2)
      go k1 k2 d1 d2 p1 p2 f1 f2 (at_first e1 h1) (at_first e2 h2) = absurd (once 0 (p1 ∙ ap (λ k. Some k) e1) (p2 ∙ ap (λ k. Some k) e2))
      go k1 k2 d1 d2 p1 p2 f1 f2 (at_second e1 h1) (at_second e2 h2) = absurd (once 1 (p1 ∙ ap (λ k. Some k) e1) (p2 ∙ ap (λ k. Some k) e2))

-- ---- the statement

module _ (p : Program) (scope : Scope) (s : Surroundings) (agrees : Agrees p scope s) (site : Site) (held : ℕ → Option Holder) (allows : Allows p scope s site held) where
  -- a variable that may change, as it is named
  named_defines : (e : ExpressionNode) (o : Option Has) → IsOf p scope s e o → MayChange p scope s e
      → NodeDefines p scope (named_by e) × ((designated p scope (named_by e)).of ≡ base s (type_in o))
  named_defines e None h may = absurd h
  named_defines (n.variable d) (Some y) h may = ((h.1, may), h.2.0)
  named_defines e (Some y) h may = absurd may

  pub kind_same : (o : Option Has) → base s (type_in o) ≡ (kind_by s o).of
  kind_same None = refl
  kind_same (Some h) = refl

  pub two_move : (l1 : Option Name) (e : t.Tree) (l2 : Option Name) (f : t.Tree) → IsOf p scope s (expression s e) (said s.context e).has
      → IsOf p scope s (expression s f) (said s.context f).has
      → argument_rows (moving_dummies (s.context).moving (Value l1 (said s.context e) ∷ Value l2 (said s.context f) ∷ [])) 0
      (Value l1 (said s.context e) ∷ Value l2 (said s.context f) ∷ []) no_match ≡ []
      → definition_rows site (said s.context e) ≡ [] → definition_rows site (said s.context f) ≡ []
      → NodeDefinesAs p scope (kind s e) (allocatable s e) × NodeDefinesAs p scope (kind s e) (allocatable s f)
  two_move l1 e l2 f h k rows free1 free2 =
      let he = named_defines (expression s e) (said s.context e).has h (changes p scope s site held allows (said s.context e) (expression s e) h free1) in
      let hf = named_defines (expression s f) (said s.context f).has k (changes p scope s site held allows (said s.context f) (expression s f) k free2) in
      let types : base s (type_in (said s.context e).has) ≡ base s (type_in (said s.context f).has) =
      moved_types s.type (s.context).moving l1 (said s.context e) l2 (said s.context f) (typed_of p scope s (expression s e) (said s.context e).has h)
      (typed_of p scope s (expression s f) (said s.context f).has k) (holds _ _ (first _ _ rows))
      (holds _ _ (first _ _ (second (unless (argument_fits (moving_dummies (s.context).moving (Value l1 (said s.context e) ∷ Value l2 (said s.context f) ∷ [])) 0 (Value l1 (said s.context e)) no_match) _) _ rows))) in
      let same_kind : base s (type_in (said s.context e).has) ≡ (kind s e).of = kind_same (said s.context e).has in (
        (
          itself_defines p scope s agrees (named_by (expression s e)) he.0,
          itself_typed p scope s agrees (named_by (expression s e)) (kind s e).of (alike_by _ _ (he.1 ∙ same_kind)),
        ),
        (
          itself_defines p scope s agrees (named_by (expression s f)) hf.0,
          itself_typed p scope s agrees (named_by (expression s f)) (kind s e).of (alike_by _ _ (hf.1 ∙ sym types ∙ same_kind)),
        ),
      )
