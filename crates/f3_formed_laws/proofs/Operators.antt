-- Operators make scalars of the types that are said.
use Rattle.std.proofs.Common.{◌≡◌, Bool, true, false, ◌&&◌, List, Option, Some, None, refl, sym, ap, ◌∙◌, if◌then◌else◌}
use Rattle.std.specs.Prelude.{⊤}
use Rattle.std.specs.List.{list_all}
use mathlib.Core.Path.{subst}
use Rattle.f3_tree.specs.declared.expression.Operator.{Operator}
use Rattle.f3_tree.specs.declared.expression.Operator.TheVariants as operator
use Rattle.f3_tree.specs.declared.expression.Sign.{Sign}
use Rattle.f3_tree.specs.declared.expression.Sign.TheVariants.{Plus, Minus}
use Rattle.f3_tree.specs.Expressions as t
use Rattle.f3_program.specs.declared.declarations.Base.{Base}
use Rattle.f3_program.specs.declared.declarations.Base.TheVariants as base_is
use Rattle.f3_program.specs.declared.declarations.Declared.{Declared}
use Rattle.f3_program.specs.declared.declarations.Kind.{Kind}
use Rattle.f3_program.specs.declared.expression.BinaryOperator.{BinaryOperator}
use Rattle.f3_program.specs.declared.expression.UnaryOperator.{UnaryOperator}
use Rattle.f3_program.specs.declared.program.Program.{Program}
use Rattle.f3_kinds.specs.declared.types.DataType.{DataType}
use Rattle.f3_kinds.specs.declared.types.DataType.TheVariants.{Integer, Logical, Derived}
use Rattle.f3_kinds.specs.declared.types.Wanted.{Wanted}
use Rattle.f3_kinds.specs.declared.types.Wanted.TheVariants as wanted
use Rattle.f3_kinds.specs.declared.said.Has.{Has}
use Rattle.f3_kinds.specs.Rows.{has_fits, type_fits, fits, computed, wider}
use Rattle.f3_kinds.specs.Operands.{when_right, result_of, enclosed, kind_of, kind_in, type_in, wanted_by}
use Rattle.f3_kinds.specs.Typing.{said, said_rest}
use Rattle.f3_meaning_whole.specs.Formed.{alike, of_kind, found, only, is_scalar, is_number}
use Rattle.f3_elaboration.specs.Nodes as n
use Rattle.f3_elaboration.specs.Nodes.{ExpressionNode}
use Rattle.f3_elaboration.specs.Context.{Surroundings, base}
use Rattle.f3_elaboration.specs.Expressions.{Operand, operand, joined, operation, is_power, chain, expression, signed}
use Rattle.f3_lawful_laws.proofs.Facts.{no, left, right}
use Rattle.f3_lawful_laws.proofs.Intrinsics.{IsPlain}
use Rattle.f3_lawful_laws.proofs.Positions.{eq_same}
use Rattle.f3_formed_laws.specs.Nodes.{value_kind}
use Rattle.f3_formed_laws.specs.Levels.{AreOfSort}
use Rattle.f3_formed_laws.proofs.Facts.{when_only}
use Rattle.f3_formed_laws.proofs.Bases.{is_wanted_base, alike_numbers, alike_equal, type_same, number_base}
use Rattle.f3_formed_laws.proofs.Alike.{IsNoVariable, IsAs, IsKind, IsOf}
use Rattle.f3_formed_laws.proofs.Scalars.{Scalar, scalar}

-- integers or logicals, and not either
abbrev pub IsOne : Wanted → Type 0
IsOne wanted.Integer = ⊤
IsOne wanted.Logical = ⊤
IsOne wanted.Intrinsic = ⊥

pub one_by : (o : Operator) → IsOne (wanted_by o)
one_by operator.Power = tt
one_by operator.Multiply = tt
one_by operator.Divide = tt
one_by operator.Add = tt
one_by operator.Subtract = tt
one_by operator.And = tt
one_by operator.Or = tt
one_by operator.Equivalent = tt
one_by operator.NotEquivalent = tt

-- two types that are wanted alike agree
pub both_wanted : (want : Wanted) → IsOne want → (t u : Base) → is_wanted_base want t ≡ true → is_wanted_base want u ≡ true → alike t u ≡ true
both_wanted wanted.Integer h t u e f = alike_numbers t u e f
both_wanted wanted.Logical h t u e f = alike_equal t u (type_same t base_is.Logical e ∙ sym (type_same u base_is.Logical f))
both_wanted wanted.Intrinsic h t u e f = absurd h

module _ (p : Program) (vs : List Declared) (ns : List Kind) (s : Surroundings) where
  result_wanted : (want : Wanted) (k : _) → is_wanted_base want (base s (result_of want k).data_type) ≡ true
  result_wanted wanted.Integer k = number_base s.type k
  result_wanted wanted.Logical k = refl
  result_wanted wanted.Intrinsic k = refl

  pub right_is : (e : ExpressionNode) (b : Bool) (h : Has) → b ≡ true → IsKind p vs ns s e h → IsOf p vs ns s e (when_right b h)
  right_is e true h c k = k
  right_is e false h c k = no (sym c)

  -- what is no variable, and is said to be none
  pub plain_as : (e : ExpressionNode) (h : Has) → IsPlain e → h.is_allocatable ≡ false → IsNoVariable h.form → IsAs p vs ns s e h
  plain_as (n.variable d) h e a f = absurd e
  plain_as (n.literal c) h e a f = (a, f)
  plain_as (n.group y) h e a f = (a, f)
  plain_as (n.unary o of y) h e a f = (a, f)
  plain_as (n.binary o of y z) h e a f = (a, f)
  plain_as (n.array xs) h e a f = (a, f)
  plain_as (n.structure k xs) h e a f = (a, f)
  plain_as (n.reference k xs) h e a f = (a, f)
  plain_as (n.allocated d) h e a f = (a, f)
  plain_as (n.size y) h e a f = (a, f)
  plain_as (n.bound q y z) h e a f = (a, f)

  -- a scalar that is computed is as it is said
  pub computed_is : (want : Wanted) → IsOne want → (e : ExpressionNode) (d : DataType) → Scalar p vs ns s want e → is_wanted_base want (base s (Some d)) ≡ true → IsPlain e
      → IsKind p vs ns s e (computed d 0)
  computed_is want one e d h w plain = record {
    typed = refl;
    of = h.of;
    value = h.value;
    alike_to = both_wanted want one h.of (base s (Some d)) h.wanted w;
    is_as = plain_as e (computed d 0) plain refl tt;
  }

  pub result_is : (want : Wanted) → IsOne want → (k : _) (e : ExpressionNode) → Scalar p vs ns s want e → IsPlain e → IsKind p vs ns s e (result_of want k)
  result_is wanted.Integer one k e h plain = computed_is wanted.Integer tt e (Integer k) h (number_base s.type k) plain
  result_is wanted.Logical one k e h plain = computed_is wanted.Logical tt e Logical h refl plain
  result_is wanted.Intrinsic one k e h plain = absurd one

  -- ---- one operator

  pub unary_is : (want : Wanted) (o : UnaryOperator) (of : Base) (e : ExpressionNode) → IsOne want → Scalar p vs ns s want e → is_wanted_base want of ≡ true
      → Scalar p vs ns s want (n.unary o of e)
  unary_is want o of e one h w = record {
    of = of;
    value =
        ap (λ y. found y (λ k. only (is_scalar k && alike k.of of) (of_kind of 0))) h.value
        ∙ when_only (alike h.of of) (of_kind of 0) (both_wanted want one h.of of h.wanted w);
    wanted = w;
  }

  pub binary_value : (want : Wanted) (o : BinaryOperator) (of : Base) (e f : ExpressionNode) → IsOne want → Scalar p vs ns s want e → Scalar p vs ns s want f
      → value_kind p vs ns (n.binary o of e f) ≡ Some (of_kind of 0)
  binary_value want o of e f one h k =
      ap (λ y. found y (λ k. found (value_kind p vs ns f) (λ j. only (is_scalar k && (is_scalar j && alike k.of j.of)) (of_kind of 0)))) h.value
      ∙ ap (λ y. found y (λ j. only (is_scalar j && alike h.of j.of) (of_kind of 0))) k.value
      ∙ when_only (alike h.of k.of) (of_kind of 0) (both_wanted want one h.of k.of h.wanted k.wanted)

  pub binary_is : (want : Wanted) (o : BinaryOperator) (of : Base) (e f : ExpressionNode) → IsOne want → Scalar p vs ns s want e → Scalar p vs ns s want f
      → is_wanted_base want of ≡ true → Scalar p vs ns s want (n.binary o of e f)
  binary_is want o of e f one h k w = record { of = of; value = binary_value want o of e f one h k; wanted = w }

  -- ---- signs, parentheses

  pub type_number : (o : Option Has) → has_fits wanted.Integer o ≡ true → is_number (base s (type_in o)) ≡ true
  type_number None e = no (sym e)
  type_number (Some h) e = go h.data_type (left _ _ e)
    where
      go : (d : Option DataType) → type_fits wanted.Integer d ≡ true → is_number (base s d) ≡ true
      go None e = no (sym e)
      go (Some (Integer k)) e = number_base s.type k
      go (Some Logical) e = no (sym e)
      go (Some (Derived u)) e = no (sym e)

  grouped : (want : Wanted) (e : ExpressionNode) → Scalar p vs ns s want e → Scalar p vs ns s want (n.group e)
  grouped want e h = record { of = h.of; value = h.value; wanted = h.wanted }

  pub signed_is : (sign : Sign) (e : ExpressionNode) (o : Option Has) → Scalar p vs ns s wanted.Integer e → is_number (base s (type_in o)) ≡ true
      → IsKind p vs ns s (signed sign (base s (type_in o)) e) (computed (Integer (kind_of o)) 0)
  signed_is Plus e o h w = computed_is wanted.Integer tt (n.group e) (Integer (kind_of o)) (grouped wanted.Integer e h) (number_base s.type (kind_of o)) tt
  signed_is Minus e o h w =
      computed_is wanted.Integer tt _ (Integer (kind_of o)) (unary_is wanted.Integer _ (base s (type_in o)) e tt h w) (number_base s.type (kind_of o)) tt

  pub group_is : (e : ExpressionNode) (o : Option Has) → IsOf p vs ns s e o → IsOf p vs ns s (n.group e) (enclosed o)
  group_is e None h = absurd h
  group_is e (Some y) h = record { typed = h.typed; of = h.of; value = h.value; alike_to = h.alike_to; is_as = (refl, tt) }

  -- ---- operators behind an operand

  -- the operands behind the first
  abbrev pub RestIs : t.Rest → Type 0
  RestIs t.no_more = ⊤
  RestIs (t.more o e os) = IsOf p vs ns s (expression s e) (said s.context e).has × RestIs os

  joined_is : (want : Wanted) (o : Operator) (x y : Operand) → wanted_by o ≡ want → Scalar p vs ns s want x.0 → Scalar p vs ns s want y.0
      → Scalar p vs ns s want (joined s o x y).0
  joined_is want o x y e h k =
      let one : IsOne want = subst IsOne e (one_by o) in
      binary_is want (operation o) (base s (result_of (wanted_by o) (wider x.1 y.1)).data_type) x.0 y.0 one h k
      (subst (λ w. is_wanted_base w (base s (result_of (wanted_by o) (wider x.1 y.1)).data_type) ≡ true) e (result_wanted (wanted_by o) (wider x.1 y.1)))

  pub chain_scalar : (want : Wanted) (y : Operand) (os : t.Rest) → AreOfSort want os → Scalar p vs ns s want y.0 → RestIs os
      → list_all (fits want) (said_rest s.context os) ≡ true → Scalar p vs ns s want (chain s y os).0
  chain_scalar want y t.no_more sort h r f = h
  chain_scalar want y (t.more o e os) sort h r f =
      let e' : Operand = operand s e (expression s e) in
      let here : Scalar p vs ns s want (expression s e) = scalar p vs ns s want (expression s e) (said s.context e).has r.0 (left _ _ f) in
      let rest = right (fits want (said s.context e)) _ f in
      go (is_power o) (joined_is want o y (chain s e' os) sort.0 h (chain_scalar want e' os sort.1 here r.1 rest))
      (chain_scalar want (joined s o y e') os sort.1 (joined_is want o y e' sort.0 h here) r.1 rest)
    where
      go : (b : Bool) → Scalar p vs ns s want (joined s o y (chain s (operand s e (expression s e)) os)).0
          → Scalar p vs ns s want (chain s (joined s o y (operand s e (expression s e))) os).0
          → Scalar p vs ns s want (if b then joined s o y (chain s (operand s e (expression s e)) os) else chain s (joined s o y (operand s e (expression s e))) os).0
      go true a b = a
      go false a b = b

  -- one operand alone, an integer
  pub alone : (e : ExpressionNode) (o : Option Has) → IsOf p vs ns s e o → has_fits wanted.Integer o ≡ true → IsKind p vs ns s e (computed (Integer (kind_of o)) 0)
  alone e None h f = absurd h
  alone e (Some y) h f =
      let at : Scalar p vs ns s wanted.Integer e = scalar p vs ns s wanted.Integer e (Some y) h f in
      record {
        typed = refl;
        of = at.of;
        value = at.value;
        alike_to = both_wanted wanted.Integer tt at.of (base s (Some (Integer (kind_in y.data_type)))) at.wanted (number_base s.type (kind_in y.data_type));
        is_as = as_is e y h.is_as (left _ _ f) (eq_same y.rank 0 (right (type_fits wanted.Integer y.data_type) _ f));
      }
    where
      integer : (d : Option DataType) → type_fits wanted.Integer d ≡ true → base s d ≡ base s (Some (Integer (kind_in d)))
      integer None f = no (sym f)
      integer (Some (Integer k)) f = refl
      integer (Some Logical) f = no (sym f)
      integer (Some (Derived u)) f = no (sym f)

      as_is : (e : ExpressionNode) (y : Has) → IsAs p vs ns s e y → type_fits wanted.Integer y.data_type ≡ true → y.rank ≡ 0
          → IsAs p vs ns s e (computed (Integer (kind_in y.data_type)) 0)
      as_is (n.variable d) y h f r = (h.0 ∙ ap (λ t. Some (of_kind t y.rank)) (integer y.data_type f) ∙ ap (λ k. Some (of_kind (base s (Some (Integer (kind_in y.data_type)))) k)) r, refl)
      as_is e y h f r = (refl, tt)
