-- Arguments may be passed where they break no rule.
use Rattle.std.proofs.Common.{◌≡◌, ℕ, Bool, true, false, ◌||◌, not, List, length, Option, Some, None, refl, sym, ap, ◌∙◌}
use Rattle.std.proofs.Common.{if◌then◌else◌, nat_lt, nat_eq}
use Rattle.std.specs.Prelude.{⊤, slice_get, slice_index_or}
use Rattle.std.specs.List.{list_any}
use Rattle.f3_tree.specs.declared.expression.Name.{Name}
use Rattle.f3_tree.specs.declared.expression.IntegerKind.TheVariants.{Four, Eight}
use Rattle.f3_program.specs.declared.declarations.Base.{Base}
use Rattle.f3_program.specs.declared.declarations.Base.TheVariants as base_is
use Rattle.f3_program.specs.declared.program.Program.{Program}
use Rattle.f3_kinds.specs.declared.types.DataType.{DataType}
use Rattle.f3_kinds.specs.declared.types.DataType.TheVariants.{Integer, Logical, Derived}
use Rattle.f3_kinds.specs.declared.said.Given.{Given}
use Rattle.f3_kinds.specs.declared.said.Given.TheVariants.{Value}
use Rattle.f3_kinds.specs.declared.things.Dummy.{Dummy}
use Rattle.f3_kinds.specs.Things.{map_or}
use Rattle.f3_kinds.specs.Rows.{has_type, is_known, unless, at_place}
use Rattle.f3_kinds.specs.Rows as rows
use Rattle.f3_kinds.specs.Operands.{same_known}
use Rattle.f3_kinds.specs.Calls.{Matched, argument_fits, is_free, is_keyed, fits_at, place_for, within_count}
use Rattle.f3_meaning_whole.specs.Permitted.{Lendable, Scope, unknown, same_type}
use Rattle.f3_elaboration.specs.Nodes as n
use Rattle.f3_elaboration.specs.Nodes.{ExpressionNode, DesignatorNode, SelectionNode}
use Rattle.f3_elaboration.specs.Numbers.{base_by}
use Rattle.f3_elaboration.specs.Context.{Surroundings}
use Rattle.f3_elaboration.specs.Expressions as x
use Rattle.f3_elaboration.specs.Expressions.{itself, unheld, passed, passed_for, arguments_for, given_value, number_for, number_of, allocatable_dummy}
use Rattle.f3_lawful_laws.specs.Nodes.{designated, NodePasses, NodeValue, NodeArgument, NodeLocate, NodeTake}
use Rattle.f3_lawful_laws.proofs.Facts.{no, right, nothing, same}
use Rattle.f3_lawful_laws.proofs.Positions.{eq_self, eq_same}

-- ---- types

alike : (t : Base) → same_type t t ≡ true
alike base_is.Integer = refl
alike base_is.Long = refl
alike base_is.Logical = refl
alike (base_is.Derived t) = eq_self t

pub alike_by : (t u : Base) → t ≡ u → same_type t u ≡ true
alike_by t u e = ap (same_type t) (sym e) ∙ alike t

same_base : (type : ℕ → ℕ) (d e : DataType) → rows.same_type d e ≡ true → base_by type (Some d) ≡ base_by type (Some e)
same_base type (Integer Four) (Integer Four) h = refl
same_base type (Integer Eight) (Integer Eight) h = refl
same_base type (Integer Four) (Integer Eight) h = no (sym h)
same_base type (Integer Eight) (Integer Four) h = no (sym h)
same_base type (Integer j) Logical h = no (sym h)
same_base type (Integer j) (Derived u) h = no (sym h)
same_base type Logical (Integer k) h = no (sym h)
same_base type Logical Logical h = refl
same_base type Logical (Derived u) h = no (sym h)
same_base type (Derived t) (Integer k) h = no (sym h)
same_base type (Derived t) Logical h = no (sym h)
same_base type (Derived t) (Derived u) h = ap (λ (e : ℕ). base_is.Derived (type e)) (eq_same t u h)

-- known types that agree have one number
pub known_same : (type : ℕ → ℕ) (d e : Option DataType) → is_known d ≡ true → is_known e ≡ true → same_known d e ≡ true → base_by type d ≡ base_by type e
known_same type None e k l h = no (sym k)
known_same type (Some d) None k l h = no (sym l)
known_same type (Some d) (Some e) k l h = same_base type d e h

-- ---- the dummy that an argument is for

-- an argument that fits has a dummy
pub record Fits (ds : List (ℕ × Dummy)) (position : ℕ) (h : Given) : Type 0 where
  pub number : ℕ
  pub place : place_for ds position h ≡ Some number
  pub dummy : ℕ × Dummy
  pub there : slice_get ds number ≡ Some dummy
  pub fits : fits_at (Some dummy.1) h ≡ true

fits_of : (ds : List (ℕ × Dummy)) (taken : List ℕ) (position : ℕ) (h : Given) (o : Option ℕ) → place_for ds position h ≡ o → is_free ds taken h o ≡ true → Fits ds position h
fits_of ds taken position h None e f = no (sym f)
fits_of ds taken position h (Some k) e f = go (slice_get ds k) refl (right (not (list_any (nat_eq k) taken)) _ f)
  where
    go : (d : Option (ℕ × Dummy)) → slice_get ds k ≡ d → fits_at (map_or None (λ x. Some x.1) d) h ≡ true → Fits ds position h
    go None there f = no (sym f)
    go (Some d) there f = record { number = k; place = e; dummy = d; there = there; fits = f }

pub fits_by : (ds : List (ℕ × Dummy)) (position : ℕ) (h : Given) (m : Matched) → argument_fits ds position h m ≡ true → Fits ds position h
fits_by ds position h m e = fits_of ds m.taken position h (place_for ds position h) refl (right (is_keyed h || not m.keyed) _ e)

within : (count position k : ℕ) → within_count count position ≡ Some k → position ≡ k
within count position k e = go (nat_lt position count) e
  where
    go : (b : Bool) → (if b then Some position else None) ≡ Some k → position ≡ k
    go true e = same e
    go false e = nothing e

pub numbered : (ds : List (ℕ × Dummy)) (position : ℕ) (e : ExpressionNode) (l : Option Name) (y : _) (k : ℕ)
    → place_for ds position (Value l y) ≡ Some k → number_for ds position (x.value l e) ≡ k
numbered ds position e None y k h = within (length ds) position k h
numbered ds position e (Some keyword) y k h = ap (λ o. map_or 0 (λ k. k) o) h

-- ---- one argument

implied : (m b : Bool) → (m ≡ true → b ≡ true) → (not m || b) ≡ true
implied true b h = h refl
implied false b h = refl

never : (m : Bool) → (m ≡ true → ⊥) → m ≡ false
never true h = absurd (h refl)
never false h = refl

module _ (p : Program) (scope : Scope) (s : Surroundings) where
  take_unheld : (how : SelectionNode) → NodeTake p scope how → NodeTake p scope (unheld how)
  take_unheld n.whole h = tt
  take_unheld n.contents h = tt
  take_unheld (n.elements o xs) h = h

  pub locates_itself : (d : DesignatorNode) → NodeLocate p scope d → NodeLocate p scope (itself d)
  locates_itself (n.name y how) h = take_unheld how h
  locates_itself (n.component d k how) h = (h.0, h.1, take_unheld how h.2)

  pub itself_same : (d : DesignatorNode) → designated p scope (itself d) ≡ designated p scope d
  itself_same (n.name y how) = refl
  itself_same (n.component d k how) = refl

  locates_passed : (b : Bool) (d : DesignatorNode) → NodeLocate p scope d → NodeLocate p scope (if b then itself d else d)
  locates_passed true d h = locates_itself d h
  locates_passed false d h = h

  passed_same : (b : Bool) (d : DesignatorNode) → designated p scope (if b then itself d else d) ≡ designated p scope d
  passed_same true d = itself_same d
  passed_same false d = refl

  pub may_passed : (b : Bool) (k : ℕ) (e : ExpressionNode) → NodeValue p scope e → NodeArgument p scope (passed b k e)
  may_passed b k (n.variable d) h = locates_passed b d h
  may_passed b k e h = h

  -- a variable that may be defined
  abbrev pub MayChange : ExpressionNode → Type 0
  MayChange (n.variable d) = (designated p scope d).may_define ≡ true
  MayChange _ = ⊥

  abbrev pub HasType : ExpressionNode → Base → Type 0
  HasType (n.variable d) t = (designated p scope d).of ≡ t
  HasType _ t = ⊤

  pub passes : (names : List Lendable) (k : ℕ) (l : Lendable) (b : Bool) (e : ExpressionNode) → slice_index_or names k unknown ≡ l
      → (l.may_define ≡ true → MayChange e) → HasType e l.of → NodePasses p scope names (passed b k e)
  passes names k l b (n.variable d) is change type = (
    ap (λ (z : Lendable). not z.may_define || (designated p scope (if b then itself d else d)).may_define) is
        ∙ ap (λ (z : Lendable). not l.may_define || z.may_define) (passed_same b d) ∙ implied l.may_define _ change,
    ap (λ (z : Lendable). same_type (designated p scope (if b then itself d else d)).of z.of) is
        ∙ alike_by _ l.of (ap (λ (z : Lendable). z.of) (passed_same b d) ∙ type),
  )
  passes names k l b e is change type = ap (λ (z : Lendable). z.may_define) is ∙ never l.may_define change
