-- Expressions that break no rule are of the kinds that are said.
use Rattle.std.proofs.Common.{◌≡◌, true, false, Bool, ◌&&◌, List, [], ◌∷◌, ◌++◌, Option, refl, sym, ◌∙◌, if◌then◌else◌}
use Rattle.std.specs.List.{flat_map, list_all}
use Rattle.f3_places.specs.declared.source.Place.{Place}
use Rattle.f3_rules.specs.declared.rule.Rule.TheVariants.{T6}
use Rattle.f3_tree.specs.declared.expression.IntegerLiteral.{IntegerLiteral}
use Rattle.f3_tree.specs.declared.expression.IntegerLiteral.TheVariants as literal
use Rattle.f3_tree.specs.declared.expression.Relation.{Relation}
use Rattle.f3_tree.specs.declared.expression.Sign.{Sign}
use Rattle.f3_tree.specs.Expressions as t
use Rattle.f3_program.specs.declared.declarations.Base.TheVariants as base_is
use Rattle.f3_program.specs.declared.declarations.Declared.{Declared}
use Rattle.f3_program.specs.declared.declarations.Kind.{Kind}
use Rattle.f3_program.specs.declared.expression.UnaryOperator.TheVariants.{Not}
use Rattle.f3_program.specs.declared.program.Program.{Program}
use Rattle.f3_kinds.specs.declared.types.DataType.{DataType}
use Rattle.f3_kinds.specs.declared.types.DataType.TheVariants.{Integer, Logical}
use Rattle.f3_kinds.specs.declared.types.Wanted.{Wanted}
use Rattle.f3_kinds.specs.declared.types.Wanted.TheVariants as wanted
use Rattle.f3_kinds.specs.declared.said.Said.{Said}
use Rattle.f3_kinds.specs.Rows.{at_place, has_type, fits, computed, scalar_rows}
use Rattle.f3_kinds.specs.Operands.{chain_said, chain_rows, array_said, array_rows, mixed_rows, has_same, type_in, wanted_by, result_of, widest, kind_of, when_right}
use Rattle.f3_kinds.specs.Typing.{said, said_rest, said_all, said_parts, said_behind, said_arguments, said_argument, said_perhaps, breaks, breaks_rest}
use Rattle.f3_kinds.specs.Typing.{breaks_all, breaks_parts, breaks_behind, breaks_arguments, breaks_argument, breaks_perhaps, level_of}
use Rattle.f3_elaboration.specs.Nodes as n
use Rattle.f3_elaboration.specs.Context.{Surroundings, base}
use Rattle.f3_elaboration.specs.Expressions.{expression, chain, operand, items, parts, behind, given, given_by, perhaps, signed, comparison, type_of}
use Rattle.f3_lawful_laws.specs.Written.{IsWritten, IsRestWritten, AreWritten, ArePartsWritten, IsBehindWritten, AreArgumentsWritten, IsArgumentWritten}
use Rattle.f3_lawful_laws.specs.Written.{IsPerhapsWritten}
use Rattle.f3_lawful_laws.proofs.Facts.{not_nil, first, second, both, when_true}
use Rattle.f3_lawful_laws.proofs.Typed.{AreTyped, fit}
use Rattle.f3_lawful_laws.proofs.Chains.{more_plain}
use Rattle.f3_meaning_whole.specs.Permitted.{Scope}
use Rattle.f3_formed_laws.specs.Agreement.{AgreesInKinds}
use Rattle.f3_formed_laws.specs.Levels.{AreOfSort, IsLevelled, IsRestLevelled, AreLevelled, ArePartsLevelled, IsBehindLevelled, AreArgumentsLevelled}
use Rattle.f3_formed_laws.specs.Levels.{IsArgumentLevelled, IsPerhapsLevelled}
use Rattle.f3_formed_laws.proofs.Alike.{IsOf, MayBeOf, IsGiven, AreGiven, IsBehind, AreParts}
use Rattle.f3_formed_laws.proofs.Scalars.{Scalar, scalar, typed_of}
use Rattle.f3_formed_laws.proofs.Operators.{one_by, right_is, computed_is, result_is, unary_is, binary_value, type_number, signed_is, group_is, RestIs, chain_scalar, alone}
use Rattle.f3_formed_laws.proofs.Arrays.{ItemsAre, array_is}
use Rattle.f3_formed_laws.proofs.Meant.{meant_is}

-- ---- what fits

all_fit : (want : Wanted) (ss : List Said) → AreTyped ss → flat_map (scalar_rows want) ss ≡ [] → list_all (fits want) ss ≡ true
all_fit want [] t e = refl
all_fit want (s ∷ ss) t e = both _ _ (fit want s t.0 (first _ _ e)) (all_fit want ss t.1 (second _ _ e))

all_same : (d : Option DataType) (ss : List Said) → mixed_rows d ss ≡ [] → list_all (has_same d) ss ≡ true
all_same d [] e = refl
all_same d (s ∷ ss) e = here (has_same d s) e (λ f. all_same d ss f)
  where
    here : (b : Bool) → (if b then mixed_rows d ss else at_place 6 T6 s.place ∷ []) ≡ [] → (mixed_rows d ss ≡ [] → list_all (has_same d) ss ≡ true)
        → (b && list_all (has_same d) ss) ≡ true
    here true e go = go e
    here false e go = not_nil e

module _ (p : Program) (vs : List Declared) (ns : List Kind) (s : Surroundings) (agrees : AgreesInKinds p vs ns s) where
  abbrev pub Is : t.Tree → Type 0
  Is e = IsOf p vs ns s (expression s e) (said s.context e).has

  typed : (e : t.Tree) → Is e → has_type (said s.context e).has ≡ true
  typed e h = typed_of p vs ns s (expression s e) (said s.context e).has h

  fitted : (want : Wanted) (e : t.Tree) → Is e → scalar_rows want (said s.context e) ≡ [] → fits want (said s.context e) ≡ true
  fitted want e h rows = fit want (said s.context e) (typed e h) rows

  scalar_by : (want : Wanted) (e : t.Tree) → Is e → fits want (said s.context e) ≡ true → Scalar p vs ns s want (expression s e)
  scalar_by want e h f = scalar p vs ns s want (expression s e) (said s.context e).has h f

  -- a place, of which nothing is asked here
  nowhere : Scope
  nowhere = record { unit = 0; variables = []; names = [] }

  rest_typed : (os : t.Rest) → RestIs p vs ns s os → AreTyped (said_rest s.context os)
  rest_typed t.no_more h = tt
  rest_typed (t.more o e os) h = (typed e h.0, rest_typed os h.1)

  items_typed : (es : t.Trees) → ItemsAre p vs ns s es → AreTyped (said_all s.context es)
  items_typed t.no_trees h = tt
  items_typed (t.trees e es) h = (typed e h.0, items_typed es h.1)

  chain_is : (e : t.Tree) (os : t.Rest) → AreOfSort (level_of os) os → Is e → RestIs p vs ns s os → chain_rows (level_of os) (said s.context e) (said_rest s.context os) ≡ []
      → IsOf p vs ns s (chain s (operand s e (expression s e)) os).0 (chain_said (level_of os) (said s.context e) (said_rest s.context os)).has
  chain_is e t.no_more sort h r rows =
      let fitting : fits wanted.Integer (said s.context e) ≡ true = fitted wanted.Integer e h (first _ _ rows) in
      right_is p vs ns s (expression s e) (fits wanted.Integer (said s.context e) && true) (computed (Integer (kind_of (said s.context e).has)) 0) (both _ _ fitting refl)
      (alone p vs ns s (expression s e) (said s.context e).has h fitting)
  chain_is e (t.more o f os) sort h r rows =
      let want : Wanted = wanted_by o in
      let own : fits want (said s.context e) ≡ true = fitted want e h (first _ _ rows) in
      let others : list_all (fits want) (said_rest s.context (t.more o f os)) ≡ true =
      all_fit want (said_rest s.context (t.more o f os)) (rest_typed (t.more o f os) r) (second (scalar_rows want (said s.context e)) _ rows) in
      right_is p vs ns s (chain s (operand s e (expression s e)) (t.more o f os)).0 (fits want (said s.context e) && list_all (fits want) (said_rest s.context (t.more o f os)))
      (result_of want (widest (kind_of (said s.context e).has) (said_rest s.context (t.more o f os)))) (both _ _ own others)
      (result_is p vs ns s want (one_by o) (widest (kind_of (said s.context e).has) (said_rest s.context (t.more o f os))) (chain s (operand s e (expression s e)) (t.more o f os)).0
      (chain_scalar p vs ns s want (operand s e (expression s e)) (t.more o f os) sort (scalar_by want e h own) r others)
      (more_plain p nowhere s (operand s e (expression s e)) o f os))

  array_by : (at : Place) (e : t.Tree) (es : t.Trees) → Is e → ItemsAre p vs ns s es → array_rows (said s.context e ∷ said_all s.context es) ≡ []
      → IsOf p vs ns s (n.array (items s (t.trees e es))) (array_said at (said s.context e ∷ said_all s.context es)).has
  array_by at e es h r rows =
      let fitting : list_all (fits wanted.Intrinsic) (said_all s.context (t.trees e es)) ≡ true =
      all_fit wanted.Intrinsic (said_all s.context (t.trees e es)) (typed e h, items_typed es r) (first _ _ rows) in
      let mixed : mixed_rows (type_in (said s.context e).has) (said_all s.context (t.trees e es)) ≡ [] =
      sym (when_true _ _ _ fitting) ∙ second (flat_map (scalar_rows wanted.Intrinsic) (said_all s.context (t.trees e es))) _ rows in
      let same = all_same (type_in (said s.context e).has) (said_all s.context (t.trees e es)) mixed in
      array_is p vs ns s e es (h, r) fitting same _ (both _ _ fitting same)

  signed_by : (sign : Sign) (e : t.Tree) → Is e → scalar_rows wanted.Integer (said s.context e) ≡ []
      → IsOf p vs ns s (signed sign (base s (type_of s e)) (expression s e))
      (when_right (fits wanted.Integer (said s.context e)) (computed (Integer (kind_of (said s.context e).has)) 0))
  signed_by sign e h rows =
      let f : fits wanted.Integer (said s.context e) ≡ true = fitted wanted.Integer e h rows in
      right_is p vs ns s (signed sign (base s (type_of s e)) (expression s e)) (fits wanted.Integer (said s.context e)) (computed (Integer (kind_of (said s.context e).has)) 0) f
      (signed_is p vs ns s sign (expression s e) (said s.context e).has (scalar_by wanted.Integer e h f) (type_number p vs ns s (said s.context e).has f))

  negated_by : (e : t.Tree) → Is e → scalar_rows wanted.Logical (said s.context e) ≡ []
      → IsOf p vs ns s (n.unary Not base_is.Logical (expression s e)) (when_right (fits wanted.Logical (said s.context e)) (computed Logical 0))
  negated_by e h rows =
      let f : fits wanted.Logical (said s.context e) ≡ true = fitted wanted.Logical e h rows in
      right_is p vs ns s (n.unary Not base_is.Logical (expression s e)) (fits wanted.Logical (said s.context e)) (computed Logical 0) f
      (computed_is p vs ns s wanted.Logical tt (n.unary Not base_is.Logical (expression s e)) Logical
      (unary_is p vs ns s wanted.Logical Not base_is.Logical (expression s e) tt (scalar_by wanted.Logical e h f) refl) refl tt)

  compared_by : (e : t.Tree) (r : Relation) (f : t.Tree) → Is e → Is f → scalar_rows wanted.Integer (said s.context e) ++ scalar_rows wanted.Integer (said s.context f) ≡ []
      → IsOf p vs ns s (n.binary (comparison r) base_is.Logical (expression s e) (expression s f))
      (when_right (fits wanted.Integer (said s.context e) && fits wanted.Integer (said s.context f)) (computed Logical 0))
  compared_by e r f h k rows =
      let a : fits wanted.Integer (said s.context e) ≡ true = fitted wanted.Integer e h (first _ _ rows) in
      let b : fits wanted.Integer (said s.context f) ≡ true = fitted wanted.Integer f k (second (scalar_rows wanted.Integer (said s.context e)) _ rows) in
      right_is p vs ns s (n.binary (comparison r) base_is.Logical (expression s e) (expression s f)) (fits wanted.Integer (said s.context e) && fits wanted.Integer (said s.context f))
      (computed Logical 0) (both _ _ a b) record {
        typed = refl;
        of = base_is.Logical;
        value =
            binary_value p vs ns s wanted.Integer (comparison r) base_is.Logical (expression s e) (expression s f) tt (scalar_by wanted.Integer e h a)
            (scalar_by wanted.Integer f k b);
        alike_to = refl;
        is_as = (refl, tt);
      }

  literal_is : (at : Place) (z : IntegerLiteral) → Is (t.integer at z)
  literal_is at (literal.Four k) = record { typed = refl; of = base_is.Integer; value = refl; alike_to = refl; is_as = (refl, tt) }
  literal_is at (literal.Eight k) = record { typed = refl; of = base_is.Integer; value = refl; alike_to = refl; is_as = (refl, tt) }

  mutual
    pub expression_is : (e : t.Tree) → IsWritten e → IsLevelled e → breaks s.context e ≡ [] → Is e
    expression_is (t.integer at z) w l b = literal_is at z
    expression_is (t.truth at v) w l b = record { typed = refl; of = base_is.Logical; value = refl; alike_to = refl; is_as = (refl, tt) }
    expression_is (t.text at k) w l b = not_nil b
    expression_is (t.designator t.no_parts) w l b = absurd w.0
    expression_is (t.designator (t.parts m g ps)) w l b =
        let own = first (breaks_parts s.context (t.parts m g ps)) _ b in
        meant_is p vs ns s agrees m (behind s g) (parts s ps) (said_behind s.context g) (said_parts s.context ps)
        (behind_is g w.1.0 l.0 (first _ _ own)) (parts_are ps w.1.1 l.1 (second (breaks_behind s.context g) _ own))
        (second (breaks_parts s.context (t.parts m g ps)) _ b)
    expression_is (t.group at e) w l b = group_is p vs ns s (expression s e) (said s.context e).has (expression_is e w l b)
    expression_is (t.array at t.no_trees) w l b = absurd w.0
    expression_is (t.array at (t.trees e es)) w l b =
        let own = first (breaks s.context e) _ (first (breaks_all s.context (t.trees e es)) _ b) in
        let others = second (breaks s.context e) _ (first (breaks_all s.context (t.trees e es)) _ b) in
        array_by at e es (expression_is e w.1.0 l.0 own) (items_are es w.1.1 l.1 others) (second (breaks_all s.context (t.trees e es)) _ b)
    expression_is (t.signed at sign e) w l b = signed_by sign e (expression_is e w l (first _ _ b)) (second (breaks s.context e) _ b)
    expression_is (t.negation at e) w l b = negated_by e (expression_is e w l (first _ _ b)) (second (breaks s.context e) _ b)
    expression_is (t.comparison e r f) w l b =
        let behind = second (breaks s.context e) _ b in
        compared_by e r f (expression_is e w.0 l.0 (first _ _ b)) (expression_is f w.1 l.1 (first _ _ behind)) (second (breaks s.context f) _ behind)
    expression_is (t.chain e os) w l b =
        let behind = second (breaks s.context e) _ b in
        chain_is e os l.0 (expression_is e w.0 l.1 (first _ _ b)) (rest_is os w.1 l.2 (first _ _ behind)) (second (breaks_rest s.context os) _ behind)

    rest_is : (os : t.Rest) → IsRestWritten os → IsRestLevelled os → breaks_rest s.context os ≡ [] → RestIs p vs ns s os
    rest_is t.no_more w l b = tt
    rest_is (t.more o e os) w l b = (expression_is e w.0 l.0 (first _ _ b), rest_is os w.1 l.1 (second (breaks s.context e) _ b))

    items_are : (es : t.Trees) → AreWritten es → AreLevelled es → breaks_all s.context es ≡ [] → ItemsAre p vs ns s es
    items_are t.no_trees w l b = tt
    items_are (t.trees e es) w l b = (expression_is e w.0 l.0 (first _ _ b), items_are es w.1 l.1 (second (breaks s.context e) _ b))

    pub parts_are : (ps : t.Parts) → ArePartsWritten ps → ArePartsLevelled ps → breaks_parts s.context ps ≡ [] → AreParts p vs ns s (parts s ps) (said_parts s.context ps)
    parts_are t.no_parts w l b = tt
    parts_are (t.parts m g ps) w l b = (refl, behind_is g w.0 l.0 (first _ _ b), parts_are ps w.1 l.1 (second (breaks_behind s.context g) _ b))

    pub behind_is : (g : t.Behind) → IsBehindWritten g → IsBehindLevelled g → breaks_behind s.context g ≡ [] → IsBehind p vs ns s (behind s g) (said_behind s.context g)
    behind_is t.bare w l b = tt
    behind_is (t.within list) w l b = arguments_are list w l b

    pub arguments_are : (list : t.Arguments) → AreArgumentsWritten list → AreArgumentsLevelled list → breaks_arguments s.context list ≡ []
        → AreGiven p vs ns s (given s list) (said_arguments s.context list)
    arguments_are t.no_arguments w l b = tt
    arguments_are (t.arguments a others) w l b = (argument_is a w.0 l.0 (first _ _ b), arguments_are others w.1 l.1 (second (breaks_argument s.context a) _ b))

    argument_is : (a : t.ArgumentTree) → IsArgumentWritten a → IsArgumentLevelled a → breaks_argument s.context a ≡ [] → IsGiven p vs ns s (given_by s a) (said_argument s.context a)
    argument_is (t.value keyword e) w l b = (refl, expression_is e w l b)
    argument_is (t.triplet at a c d) w l b =
        let behind = second (breaks_perhaps s.context a) _ b in
        (perhaps_is a w.0 l.0 (first _ _ b), perhaps_is c w.1 l.1 (first _ _ behind), perhaps_is d w.2 l.2 (second (breaks_perhaps s.context c) _ behind))

    perhaps_is : (a : t.Perhaps) → IsPerhapsWritten a → IsPerhapsLevelled a → breaks_perhaps s.context a ≡ [] → MayBeOf p vs ns s (perhaps s a) (said_perhaps s.context a)
    perhaps_is t.absent w l b = tt
    perhaps_is (t.present e) w l b = expression_is e w l b
