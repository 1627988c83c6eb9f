-- Expressions that break no rule have types, and may stand where they do.
use Rattle.std.proofs.Common.{◌≡◌, true, ◌&&◌, [], ◌∷◌, Some, None, refl, sym}
use Rattle.std.specs.List.{list_all}
use mathlib.Core.Path.{subst}
use Rattle.f3_tree.specs.Expressions as t
use Rattle.f3_program.specs.declared.declarations.Base.TheVariants as base_is
use Rattle.f3_program.specs.declared.expression.UnaryOperator.TheVariants.{Not}
use Rattle.f3_program.specs.declared.program.Program.{Program}
use Rattle.f3_kinds.specs.declared.types.DataType.TheVariants.{Integer, Logical}
use Rattle.f3_kinds.specs.declared.types.Wanted.TheVariants as wanted
use Rattle.f3_kinds.specs.Rows.{has_type, fits, computed}
use Rattle.f3_kinds.specs.Operands.{signed_said, not_said, comparison_said, chain_said, chain_rows, array_said, array_rows, enclosed, wanted_by}
use Rattle.f3_kinds.specs.Operands.{first_type, kind_of}
use Rattle.f3_kinds.specs.Typing.{said, said_rest, said_all, said_parts, said_behind, said_arguments, said_argument, said_perhaps, breaks, breaks_rest}
use Rattle.f3_kinds.specs.Typing.{breaks_all, breaks_parts, breaks_behind, breaks_arguments, breaks_argument, breaks_perhaps, level_of}
use Rattle.f3_meaning_whole.specs.Permitted.{Scope}
use Rattle.f3_elaboration.specs.Nodes as n
use Rattle.f3_elaboration.specs.Context.{Surroundings, base}
use Rattle.f3_elaboration.specs.Expressions.{expression, chain, operand, items, parts, behind, given, given_by, perhaps, signed, comparison, type_of}
use Rattle.f3_lawful_laws.specs.Written.{IsWritten, IsRestWritten, AreWritten, ArePartsWritten, IsBehindWritten, AreArgumentsWritten, IsArgumentWritten}
use Rattle.f3_lawful_laws.specs.Written.{IsPerhapsWritten}
use Rattle.f3_lawful_laws.specs.Agreement.{Agrees}
use Rattle.f3_lawful_laws.specs.Nodes.{NodeValue}
use Rattle.f3_lawful_laws.proofs.Facts.{not_nil, first, second, both, when_true}
use Rattle.f3_lawful_laws.proofs.Typed.{fit, group_typed, signed_typed, not_typed, comparison_typed, chain_typed, array_typed}
use Rattle.f3_lawful_laws.proofs.Alike.{IsOf, MayBeOf, IsGiven, AreGiven, IsBehind, AreParts}
use Rattle.f3_lawful_laws.proofs.Given.{may_of, typed_of}
use Rattle.f3_lawful_laws.proofs.Intrinsics.{plain}
use Rattle.f3_lawful_laws.proofs.Meant.{meant_is}
use Rattle.f3_lawful_laws.proofs.Chains.{enclosed_none, computed_none, result_none, array_none, signed_may, RestIs, rest_typed, chain_may, more_plain, alone, ItemsAre}
use Rattle.f3_lawful_laws.proofs.Chains.{items_typed, items_may}

module _ (p : Program) (scope : Scope) (s : Surroundings) (agrees : Agrees p scope s) where
  abbrev Is : t.Tree → Type 0
  Is e = IsOf p scope s (expression s e) (said s.context e).has

  may : (e : t.Tree) → Is e → NodeValue p scope (expression s e)
  may e h = may_of p scope s (expression s e) (said s.context e).has h

  typed : (e : t.Tree) → Is e → has_type (said s.context e).has ≡ true
  typed e h = typed_of p scope s (expression s e) (said s.context e).has h

  -- of one operand alone, and of more
  chain_is : (e : t.Tree) (os : t.Rest) → Is e → RestIs p scope s os → chain_rows (level_of os) (said s.context e) (said_rest s.context os) ≡ []
      → IsOf p scope s (chain s (operand s e (expression s e)) os).0 (chain_said (level_of os) (said s.context e) (said_rest s.context os)).has
  chain_is e t.no_more h r rows =
      let fitting : fits wanted.Integer (said s.context e) ≡ true = fit wanted.Integer (said s.context e) (typed e h) (first _ _ rows) in
      subst (IsOf p scope s (expression s e))
      (sym (when_true (fits wanted.Integer (said s.context e) && true) (Some (computed (Integer (kind_of (said s.context e).has)) 0)) None (both _ _ fitting refl)))
      (alone p scope s (expression s e) (said s.context e).has h fitting)
  chain_is e (t.more o f os) h r rows =
      plain p scope s (chain s (operand s e (expression s e)) (t.more o f os)).0 (chain_said (wanted_by o) (said s.context e) (said_rest s.context (t.more o f os))).has
      (chain_may p scope s (operand s e (expression s e)) (t.more o f os) (may e h) r, more_plain p scope s (operand s e (expression s e)) o f os)
      (chain_typed (wanted_by o) (said s.context e) (said_rest s.context (t.more o f os)) (typed e h) (rest_typed p scope s (t.more o f os) r) rows)
      (result_none p scope s (fits (wanted_by o) (said s.context e) && list_all (fits (wanted_by o)) (said_rest s.context (t.more o f os))) (wanted_by o) _)

  array_is : (at : _) (e : t.Tree) (es : t.Trees) → Is e → ItemsAre p scope s es → array_rows (said s.context e ∷ said_all s.context es) ≡ []
      → IsOf p scope s (n.array (items s (t.trees e es))) (array_said at (said s.context e ∷ said_all s.context es)).has
  array_is at e es h r rows =
      plain p scope s (n.array (items s (t.trees e es))) (array_said at (said s.context e ∷ said_all s.context es)).has
      ((may e h, items_may p scope s es r), tt)
      (array_typed at (said s.context e) (said_all s.context es) (typed e h) (items_typed p scope s es r) rows)
      (array_none p scope s _ (first_type (said s.context e ∷ said_all s.context es)))

  mutual
    pub expression_is : (e : t.Tree) → IsWritten e → breaks s.context e ≡ [] → Is e
    expression_is (t.integer at z) w b = (refl, tt, tt)
    expression_is (t.truth at v) w b = (refl, tt, tt)
    expression_is (t.text at k) w b = not_nil b
    expression_is (t.designator t.no_parts) w b = absurd w.0
    expression_is (t.designator (t.parts m g ps)) w b =
        let own = first (breaks_parts s.context (t.parts m g ps)) _ b in
        meant_is p scope s agrees (type_of s (t.designator (t.parts m g ps))) m (behind s g) (parts s ps) (said_behind s.context g) (said_parts s.context ps)
        (behind_is g w.1.0 (first _ _ own)) (parts_are ps w.1.1 (second (breaks_behind s.context g) _ own))
        (second (breaks_parts s.context (t.parts m g ps)) _ b)
    expression_is (t.group at e) w b =
        let h : Is e = expression_is e w b in
        plain p scope s (n.group (expression s e)) (enclosed (said s.context e).has) (may e h, tt) (group_typed at (said s.context e) (typed e h))
        (enclosed_none p scope s (said s.context e).has)
    expression_is (t.array at t.no_trees) w b = absurd w.0
    expression_is (t.array at (t.trees e es)) w b =
        let own = first (breaks s.context e) _ (first (breaks_all s.context (t.trees e es)) _ b) in
        let others = second (breaks s.context e) _ (first (breaks_all s.context (t.trees e es)) _ b) in
        array_is at e es (expression_is e w.1.0 own) (items_are es w.1.1 others) (second (breaks_all s.context (t.trees e es)) _ b)
    expression_is (t.signed at sign e) w b =
        let h : Is e = expression_is e w (first _ _ b) in
        plain p scope s (signed sign (base s (type_of s e)) (expression s e)) (signed_said at (said s.context e)).has
        (signed_may p scope s sign (base s (type_of s e)) (expression s e) (may e h))
        (signed_typed at (said s.context e) (typed e h) (second (breaks s.context e) _ b))
        (computed_none p scope s (fits wanted.Integer (said s.context e)) (Integer (kind_of (said s.context e).has)) 0)
    expression_is (t.negation at e) w b =
        let h : Is e = expression_is e w (first _ _ b) in
        plain p scope s (n.unary Not base_is.Logical (expression s e)) (not_said at (said s.context e)).has (may e h, tt)
        (not_typed at (said s.context e) (typed e h) (second (breaks s.context e) _ b))
        (computed_none p scope s (fits wanted.Logical (said s.context e)) Logical 0)
    expression_is (t.comparison e r f) w b =
        let behind = second (breaks s.context e) _ b in
        let h : Is e = expression_is e w.0 (first _ _ b) in
        let k : Is f = expression_is f w.1 (first _ _ behind) in
        plain p scope s (n.binary (comparison r) base_is.Logical (expression s e) (expression s f)) (comparison_said (said s.context e) (said s.context f)).has
        ((may e h, may f k), tt)
        (comparison_typed (said s.context e) (said s.context f) (typed e h) (typed f k) (second (breaks s.context f) _ behind))
        (computed_none p scope s (fits wanted.Integer (said s.context e) && fits wanted.Integer (said s.context f)) Logical 0)
    expression_is (t.chain e os) w b =
        let behind = second (breaks s.context e) _ b in
        chain_is e os (expression_is e w.0 (first _ _ b)) (rest_is os w.1 (first _ _ behind)) (second (breaks_rest s.context os) _ behind)

    rest_is : (os : t.Rest) → IsRestWritten os → breaks_rest s.context os ≡ [] → RestIs p scope s os
    rest_is t.no_more w b = tt
    rest_is (t.more o e os) w b = (expression_is e w.0 (first _ _ b), rest_is os w.1 (second (breaks s.context e) _ b))

    items_are : (es : t.Trees) → AreWritten es → breaks_all s.context es ≡ [] → ItemsAre p scope s es
    items_are t.no_trees w b = tt
    items_are (t.trees e es) w b = (expression_is e w.0 (first _ _ b), items_are es w.1 (second (breaks s.context e) _ b))

    pub parts_are : (ps : t.Parts) → ArePartsWritten ps → breaks_parts s.context ps ≡ [] → AreParts p scope s (parts s ps) (said_parts s.context ps)
    parts_are t.no_parts w b = tt
    parts_are (t.parts m g ps) w b = (refl, behind_is g w.0 (first _ _ b), parts_are ps w.1 (second (breaks_behind s.context g) _ b))

    pub behind_is : (g : t.Behind) → IsBehindWritten g → breaks_behind s.context g ≡ [] → IsBehind p scope s (behind s g) (said_behind s.context g)
    behind_is t.bare w b = tt
    behind_is (t.within list) w b = arguments_are list w b

    pub arguments_are : (list : t.Arguments) → AreArgumentsWritten list → breaks_arguments s.context list ≡ []
        → AreGiven p scope s (given s list) (said_arguments s.context list)
    arguments_are t.no_arguments w b = tt
    arguments_are (t.arguments a others) w b = (argument_is a w.0 (first _ _ b), arguments_are others w.1 (second (breaks_argument s.context a) _ b))

    argument_is : (a : t.ArgumentTree) → IsArgumentWritten a → breaks_argument s.context a ≡ [] → IsGiven p scope s (given_by s a) (said_argument s.context a)
    argument_is (t.value keyword e) w b = (refl, expression_is e w b)
    argument_is (t.triplet at a c d) w b =
        let behind = second (breaks_perhaps s.context a) _ b in
        (perhaps_is a w.0 (first _ _ b), perhaps_is c w.1 (first _ _ behind), perhaps_is d w.2 (second (breaks_perhaps s.context c) _ behind))

    perhaps_is : (a : t.Perhaps) → IsPerhapsWritten a → breaks_perhaps s.context a ≡ [] → MayBeOf p scope s (perhaps s a) (said_perhaps s.context a)
    perhaps_is t.absent w b = tt
    perhaps_is (t.present e) w b = expression_is e w b
