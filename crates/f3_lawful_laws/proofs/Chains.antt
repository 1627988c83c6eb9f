-- Operators and array constructors may stand where they break no rule.
use Rattle.std.proofs.Common.{◌≡◌, ℕ, Bool, true, false, Option, Some, None, refl, sym, ◌∙◌, if◌then◌else◌}
use Rattle.std.specs.Prelude.{⊤}
use Rattle.f3_tree.specs.declared.expression.Sign.{Sign}
use Rattle.f3_tree.specs.declared.expression.Sign.TheVariants.{Plus, Minus}
use Rattle.f3_tree.specs.Expressions as t
use Rattle.f3_program.specs.declared.declarations.Base.{Base}
use Rattle.f3_program.specs.declared.program.Program.{Program}
use Rattle.f3_kinds.specs.declared.types.DataType.{DataType}
use Rattle.f3_kinds.specs.declared.types.DataType.TheVariants.{Integer, Logical, Derived}
use Rattle.f3_kinds.specs.declared.types.Wanted.{Wanted}
use Rattle.f3_kinds.specs.declared.types.Wanted.TheVariants as wanted
use Rattle.f3_kinds.specs.declared.said.Has.{Has}
use Rattle.f3_kinds.specs.Rows.{has_fits, type_fits, computed}
use Rattle.f3_kinds.specs.Operands.{enclosed, when_right, result_of, array_has, kind_of, kind_in}
use Rattle.f3_kinds.specs.Typing.{said, said_rest, said_all}
use Rattle.f3_meaning_whole.specs.Permitted.{Scope}
use Rattle.f3_elaboration.specs.Nodes as n
use Rattle.f3_elaboration.specs.Nodes.{ExpressionNode}
use Rattle.f3_elaboration.specs.Context.{Surroundings, base}
use Rattle.f3_elaboration.specs.Expressions.{Operand, operand, joined, is_power, chain, expression, items, signed}
use Rattle.f3_lawful_laws.specs.Nodes.{NodeValue, NodeArguments}
use Rattle.f3_lawful_laws.proofs.Facts.{no, left}
use Rattle.f3_lawful_laws.proofs.Typed.{AreTyped}
use Rattle.f3_lawful_laws.proofs.Alike.{HasAs, IsOf}
use Rattle.f3_lawful_laws.proofs.Given.{may_of, typed_of}
use Rattle.f3_lawful_laws.proofs.Intrinsics.{MayAs, IsPlain, IsNone}

module _ (p : Program) (scope : Scope) (s : Surroundings) where
  -- ---- what operators make is said to be no variable

  pub enclosed_none : (o : Option Has) → IsNone p scope s (enclosed o)
  enclosed_none None = tt
  enclosed_none (Some h) = tt

  pub computed_none : (right : Bool) (d : DataType) (rank : ℕ) → IsNone p scope s (when_right right (computed d rank))
  computed_none true d rank = tt
  computed_none false d rank = tt

  pub result_none : (right : Bool) (want : Wanted) (k : _) → IsNone p scope s (when_right right (result_of want k))
  result_none right wanted.Integer k = computed_none right (Integer k) 0
  result_none right wanted.Logical k = computed_none right Logical 0
  result_none right wanted.Intrinsic k = computed_none right Logical 0

  pub array_none : (right : Bool) (d : Option DataType) → IsNone p scope s (array_has right d)
  array_none right None = tt
  array_none right (Some d) = computed_none right d 1

  pub signed_may : (sign : Sign) (of : Base) (e : ExpressionNode) → NodeValue p scope e → MayAs p scope s (signed sign of e)
  signed_may Plus of e h = (h, tt)
  signed_may Minus of e h = (h, tt)

  -- ---- operators behind an operand

  -- the operands behind the first
  abbrev pub RestIs : t.Rest → Type 0
  RestIs t.no_more = ⊤
  RestIs (t.more o e os) = IsOf p scope s (expression s e) (said s.context e).has × RestIs os

  pub rest_typed : (os : t.Rest) → RestIs os → AreTyped (said_rest s.context os)
  rest_typed t.no_more h = tt
  rest_typed (t.more o e os) h = (typed_of p scope s (expression s e) (said s.context e).has h.0, rest_typed os h.1)

  pub chain_may : (y : Operand) (os : t.Rest) → NodeValue p scope y.0 → RestIs os → NodeValue p scope (chain s y os).0
  chain_may y t.no_more h r = h
  chain_may y (t.more o e os) h r =
      let e' : Operand = operand s e (expression s e) in
      let may : NodeValue p scope (expression s e) = may_of p scope s (expression s e) (said s.context e).has r.0 in
      go (is_power o) (h, chain_may e' os may r.1) (chain_may (joined s o y e') os (h, may) r.1)
    where
      go : (b : Bool) → NodeValue p scope (joined s o y (chain s (operand s e (expression s e)) os)).0
          → NodeValue p scope (chain s (joined s o y (operand s e (expression s e))) os).0
          → NodeValue p scope (if b then joined s o y (chain s (operand s e (expression s e)) os) else chain s (joined s o y (operand s e (expression s e))) os).0
      go true a b = a
      go false a b = b

  chain_plain : (y : Operand) (os : t.Rest) → IsPlain y.0 → IsPlain (chain s y os).0
  chain_plain y t.no_more h = h
  chain_plain y (t.more o e os) h = go (is_power o) (chain_plain (joined s o y (operand s e (expression s e))) os tt)
    where
      go : (b : Bool) → IsPlain (chain s (joined s o y (operand s e (expression s e))) os).0
          → IsPlain (if b then joined s o y (chain s (operand s e (expression s e)) os) else chain s (joined s o y (operand s e (expression s e))) os).0
      go true a = tt
      go false a = a

  pub more_plain : (y : Operand) (o : _) (e : t.Tree) (os : t.Rest) → IsPlain (chain s y (t.more o e os)).0
  more_plain y o e os = go (is_power o) (chain_plain (joined s o y (operand s e (expression s e))) os tt)
    where
      go : (b : Bool) → IsPlain (chain s (joined s o y (operand s e (expression s e))) os).0
          → IsPlain (if b then joined s o y (chain s (operand s e (expression s e)) os) else chain s (joined s o y (operand s e (expression s e))) os).0
      go true a = tt
      go false a = a

  -- one operand alone, an integer
  pub alone : (e : ExpressionNode) (o : Option Has) → IsOf p scope s e o → has_fits wanted.Integer o ≡ true → IsOf p scope s e (Some (computed (Integer (kind_of o)) 0))
  alone e None h f = absurd h
  alone e (Some y) h f = (refl, h.1, as_is e y h.2 (left _ _ f))
    where
      integer : (d : Option DataType) → type_fits wanted.Integer d ≡ true → base s d ≡ base s (Some (Integer (kind_in d)))
      integer None f = no (sym f)
      integer (Some (Integer k)) f = refl
      integer (Some Logical) f = no (sym f)
      integer (Some (Derived u)) f = no (sym f)

      as_is : (e : ExpressionNode) (y : Has) → HasAs p scope s e y → type_fits wanted.Integer y.data_type ≡ true
          → HasAs p scope s e (computed (Integer (kind_in y.data_type)) 0)
      as_is (n.variable d) y h f = (h.0 ∙ integer y.data_type f, tt)
      as_is e y h f = tt

  -- ---- array constructors

  abbrev pub ItemsAre : t.Trees → Type 0
  ItemsAre t.no_trees = ⊤
  ItemsAre (t.trees e es) = IsOf p scope s (expression s e) (said s.context e).has × ItemsAre es

  pub items_typed : (es : t.Trees) → ItemsAre es → AreTyped (said_all s.context es)
  items_typed t.no_trees h = tt
  items_typed (t.trees e es) h = (typed_of p scope s (expression s e) (said s.context e).has h.0, items_typed es h.1)

  pub items_may : (es : t.Trees) → ItemsAre es → NodeArguments p scope (items s es)
  items_may t.no_trees h = tt
  items_may (t.trees e es) h = (may_of p scope s (expression s e) (said s.context e).has h.0, items_may es h.1)
