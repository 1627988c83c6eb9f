-- Operators fit the types of their operands.
use Rattle.std.proofs.Common.{◌≡◌, Bool, true, false, ◌&&◌, not, refl, sym, ap, ◌∙◌, if◌then◌else◌}
use Rattle.std.specs.Prelude.{⊤}
use Rattle.std.specs.List.{list_all}
use mathlib.Core.Path.{subst}
use Rattle.f3_tree.specs.declared.expression.Operator.{Operator}
use Rattle.f3_tree.specs.declared.expression.Operator.TheVariants as operator
use Rattle.f3_tree.specs.declared.expression.Relation.{Relation}
use Rattle.f3_tree.specs.declared.expression.Relation.TheVariants as relation
use Rattle.f3_tree.specs.declared.expression.IntegerKind.{IntegerKind}
use Rattle.f3_tree.specs.Expressions as t
use Rattle.f3_program.specs.declared.declarations.Base.{Base}
use Rattle.f3_program.specs.declared.declarations.Base.TheVariants as base_is
use Rattle.f3_program.specs.declared.expression.BinaryOperator.{BinaryOperator}
use Rattle.f3_program.specs.declared.expression.UnaryOperator.{UnaryOperator}
use Rattle.f3_program.specs.declared.program.Program.{Program}
use Rattle.f3_kinds.specs.declared.types.Wanted.{Wanted}
use Rattle.f3_kinds.specs.declared.types.Wanted.TheVariants as wanted
use Rattle.f3_kinds.specs.Rows.{fits, wider}
use Rattle.f3_kinds.specs.Operands.{result_of, wanted_by}
use Rattle.f3_kinds.specs.Typing.{said, said_rest}
use Rattle.f3_meaning_whole.specs.Formed.{some, is_number, of_kind}
use Rattle.f3_cell_kinds.specs.Types.{Scope}
use Rattle.f3_cell_kinds.specs.Effect.{is_of, is_on_numbers, is_of_numbers, is_comparison, unary_fits, binary_fits}
use Rattle.f3_elaboration.specs.Nodes as n
use Rattle.f3_elaboration.specs.Nodes.{ExpressionNode}
use Rattle.f3_elaboration.specs.Context.{Surroundings, base}
use Rattle.f3_elaboration.specs.Expressions.{Operand, operand, joined, operation, comparison, is_power, chain, expression}
use Rattle.f3_lawful_laws.proofs.Facts.{both, left, right}
use Rattle.f3_formed_laws.specs.Levels.{AreOfSort}
use Rattle.f3_formed_laws.proofs.Bases.{is_wanted_base, number_base}
use Rattle.f3_formed_laws.proofs.Scalars.{Scalar, scalar}
use Rattle.f3_formed_laws.proofs.Operators.{IsOne, one_by, binary_is, RestIs, chain_scalar}
use Rattle.f3_fitting_laws.proofs.Nodes.{kind, value_fits}

-- operands of an operator: numbers, or truth values
abbrev pub wanted_of : (is_a_number : Bool) → Wanted
wanted_of true = wanted.Integer
wanted_of false = wanted.Logical

of_wanted : (b : Bool) (t : Base) → is_wanted_base (wanted_of b) t ≡ true → is_of b t ≡ true
of_wanted true t h = h
of_wanted false t h = h

wanted_by_is : (o : Operator) → wanted_by o ≡ wanted_of (is_of_numbers (operation o))
wanted_by_is operator.Power = refl
wanted_by_is operator.Multiply = refl
wanted_by_is operator.Divide = refl
wanted_by_is operator.Add = refl
wanted_by_is operator.Subtract = refl
wanted_by_is operator.And = refl
wanted_by_is operator.Or = refl
wanted_by_is operator.Equivalent = refl
wanted_by_is operator.NotEquivalent = refl

module _ (p : Program) (c : Scope) (s : Surroundings) where
  abbrev pub Of : Wanted → ExpressionNode → Type 0
  Of want x = Scalar p c.variables c.names s want x

  abbrev pub Fits : ExpressionNode → Type 0
  Fits x = value_fits p c x ≡ true

  -- ---- one operator

  pub unary_fit : (o : UnaryOperator) (t : Base) (x : ExpressionNode) → is_of (is_on_numbers o) t ≡ true → Of (wanted_of (is_on_numbers o)) x → Fits x
      → Fits (n.unary o t x)
  unary_fit o t x w h f =
      both (some (kind p c x) (unary_fits o t)) _
      (ap (λ k. some k (unary_fits o t)) h.value ∙ both (is_of (is_on_numbers o) t) _ w (of_wanted (is_on_numbers o) h.of h.wanted)) f

  pub binary_fit : (o : BinaryOperator) (t : Base) (x y : ExpressionNode) → is_of (is_of_numbers o && not (is_comparison o)) t ≡ true
      → Of (wanted_of (is_of_numbers o)) x → Of (wanted_of (is_of_numbers o)) y → Fits x → Fits y → Fits (n.binary o t x y)
  binary_fit o t x y w h k f g =
      both (some (kind p c x) (λ k. some (kind p c y) (binary_fits o t k))) _
      (ap (λ z. some z (λ k. some (kind p c y) (binary_fits o t k))) h.value ∙ ap (λ z. some z (binary_fits o t (of_kind h.of 0))) k.value
      ∙ both (is_of (is_of_numbers o && not (is_comparison o)) t) _ w
      (both (is_of (is_of_numbers o) h.of) _ (of_wanted (is_of_numbers o) h.of h.wanted) (of_wanted (is_of_numbers o) k.of k.wanted)))
      (both _ _ f g)

  -- of numbers, with a number
  pub binary_numbers : (o : BinaryOperator) (t : Base) (x y : ExpressionNode) → is_of_numbers o ≡ true → is_comparison o ≡ false → is_number t ≡ true
      → Of wanted.Integer x → Of wanted.Integer y → Fits x → Fits y → Fits (n.binary o t x y)
  binary_numbers o t x y numbers plain w h k f g =
      binary_fit o t x y (ap (λ b. is_of (b && not (is_comparison o)) t) numbers ∙ ap (λ b. is_of (not b) t) plain ∙ w)
      (subst (λ b. Of (wanted_of b) x) (sym numbers) h) (subst (λ b. Of (wanted_of b) y) (sym numbers) k) f g

  pub comparison_fit : (r : Relation) (x y : ExpressionNode) → Of wanted.Integer x → Of wanted.Integer y → Fits x → Fits y
      → Fits (n.binary (comparison r) base_is.Logical x y)
  comparison_fit relation.Equal x y h k f g = binary_fit (comparison relation.Equal) base_is.Logical x y refl h k f g
  comparison_fit relation.NotEqual x y h k f g = binary_fit (comparison relation.NotEqual) base_is.Logical x y refl h k f g
  comparison_fit relation.Less x y h k f g = binary_fit (comparison relation.Less) base_is.Logical x y refl h k f g
  comparison_fit relation.LessOrEqual x y h k f g = binary_fit (comparison relation.LessOrEqual) base_is.Logical x y refl h k f g
  comparison_fit relation.Greater x y h k f g = binary_fit (comparison relation.Greater) base_is.Logical x y refl h k f g
  comparison_fit relation.GreaterOrEqual x y h k f g = binary_fit (comparison relation.GreaterOrEqual) base_is.Logical x y refl h k f g

  -- ---- operators behind an operand

  result_wanted : (want : Wanted) (k : IntegerKind) → is_wanted_base want (base s (result_of want k).data_type) ≡ true
  result_wanted wanted.Integer k = number_base s.type k
  result_wanted wanted.Logical k = refl
  result_wanted wanted.Intrinsic k = refl

  result_fits : (o : Operator) (k : IntegerKind)
      → is_of (is_of_numbers (operation o) && not (is_comparison (operation o))) (base s (result_of (wanted_by o) k).data_type) ≡ true
  result_fits operator.Power k = number_base s.type k
  result_fits operator.Multiply k = number_base s.type k
  result_fits operator.Divide k = number_base s.type k
  result_fits operator.Add k = number_base s.type k
  result_fits operator.Subtract k = number_base s.type k
  result_fits operator.And k = refl
  result_fits operator.Or k = refl
  result_fits operator.Equivalent k = refl
  result_fits operator.NotEquivalent k = refl

  joined_scalar : (want : Wanted) (o : Operator) (x y : Operand) → wanted_by o ≡ want → Of want x.0 → Of want y.0 → Of want (joined s o x y).0
  joined_scalar want o x y e h k =
      let one : IsOne want = subst IsOne e (one_by o) in
      binary_is p c.variables c.names s want (operation o) (base s (result_of (wanted_by o) (wider x.1 y.1)).data_type) x.0 y.0 one h k
      (subst (λ w. is_wanted_base w (base s (result_of (wanted_by o) (wider x.1 y.1)).data_type) ≡ true) e (result_wanted (wanted_by o) (wider x.1 y.1)))

  joined_fit : (want : Wanted) (o : Operator) (x y : Operand) → wanted_by o ≡ want → Of want x.0 → Of want y.0 → Fits x.0 → Fits y.0 → Fits (joined s o x y).0
  joined_fit want o x y e h k f g =
      let there = sym e ∙ wanted_by_is o in
      binary_fit (operation o) (base s (result_of (wanted_by o) (wider x.1 y.1)).data_type) x.0 y.0 (result_fits o (wider x.1 y.1))
      (subst (λ w. Of w x.0) there h) (subst (λ w. Of w y.0) there k) f g

  -- the operands behind the first
  abbrev pub RestFits : t.Rest → Type 0
  RestFits t.no_more = ⊤
  RestFits (t.more o e os) = Fits (expression s e) × RestFits os

  pub chain_fits : (want : Wanted) (y : Operand) (os : t.Rest) → AreOfSort want os → Of want y.0 → Fits y.0 → RestIs p c.variables c.names s os → RestFits os
      → list_all (fits want) (said_rest s.context os) ≡ true → Fits (chain s y os).0
  chain_fits want y t.no_more sort h g r q f = g
  chain_fits want y (t.more o e os) sort h g r q f =
      let e' : Operand = operand s e (expression s e) in
      let here : Of want (expression s e) = scalar p c.variables c.names s want (expression s e) (said s.context e).has r.0 (left _ _ f) in
      let rest = right (fits want (said s.context e)) _ f in
      go (is_power o)
      (joined_fit want o y (chain s e' os) sort.0 h (chain_scalar p c.variables c.names s want e' os sort.1 here r.1 rest) g (chain_fits want e' os sort.1 here q.0 r.1 q.1 rest))
      (chain_fits want (joined s o y e') os sort.1 (joined_scalar want o y e' sort.0 h here) (joined_fit want o y e' sort.0 h here g q.0) r.1 q.1 rest)
    where
      go : (b : Bool) → Fits (joined s o y (chain s (operand s e (expression s e)) os)).0 → Fits (chain s (joined s o y (operand s e (expression s e))) os).0
          → Fits (if b then joined s o y (chain s (operand s e (expression s e)) os) else chain s (joined s o y (operand s e (expression s e))) os).0
      go true a b = a
      go false a b = b
