-- Expressions that break no rule fit.
use Rattle.std.proofs.Common.{◌≡◌, ℕ, Bool, true, false, ◌&&◌, not, List, [], ◌∷◌, length, map, Option, Some, None, refl, sym, ap, ◌∙◌, nat_lt, if◌then◌else◌}
use Rattle.std.specs.List.{flat_map, list_all}
use mathlib.Core.Path.{subst}
use Rattle.f3_rules.specs.declared.breaks.Break.{Break}
use Rattle.f3_tree.specs.declared.expression.Name.{Name}
use Rattle.f3_tree.specs.declared.expression.Sign.{Sign}
use Rattle.f3_tree.specs.declared.expression.Sign.TheVariants.{Plus, Minus}
use Rattle.f3_tree.specs.Expressions as t
use Rattle.f3_program.specs.declared.declarations.Base.TheVariants as base_is
use Rattle.f3_program.specs.declared.expression.UnaryOperator.TheVariants.{Negate, Not}
use Rattle.f3_program.specs.declared.program.Program.{Program}
use Rattle.f3_kinds.specs.declared.types.Wanted.{Wanted}
use Rattle.f3_kinds.specs.declared.types.Wanted.TheVariants as wanted
use Rattle.f3_kinds.specs.declared.said.Given as said
use Rattle.f3_kinds.specs.declared.said.Has.{Has}
use Rattle.f3_kinds.specs.declared.said.Role.TheVariants as role
use Rattle.f3_kinds.specs.declared.things.Component.{Component}
use Rattle.f3_kinds.specs.declared.things.Intrinsic.{Intrinsic}
use Rattle.f3_kinds.specs.declared.things.Intrinsic.TheVariants as i
use Rattle.f3_kinds.specs.Things.{Nature, constant, variable, derived, subroutine, function, Meaning, nothing, several, intrinsic, entity, meaning_of}
use Rattle.f3_kinds.specs.Rows.{fits, scalar_rows, has_type}
use Rattle.f3_kinds.specs.Operands.{type_in, wanted_by, chain_rows}
use Rattle.f3_kinds.specs.Designators.{Part}
use Rattle.f3_kinds.specs.Calls.{intrinsic_rows, intrinsic_has, intrinsic_parts, actual_rows, least_count, typed_result}
use Rattle.f3_kinds.specs.Typing as typing
use Rattle.f3_kinds.specs.Typing.{called, sense_of, sense_has, sense_rows, said_rest, said_parts, said_behind, level_of}
use Rattle.f3_kinds.specs.Typing.{breaks, breaks_rest, breaks_all, breaks_parts, breaks_behind, breaks_arguments, breaks_argument, breaks_perhaps}
use Rattle.f3_meaning_whole.specs.Permitted.{Each}
use Rattle.f3_meaning_whole.specs.Formed.{some, given_all}
use Rattle.f3_cell_kinds.specs.Types.{Scope}
use Rattle.f3_cell_kinds.specs.Effect.{are_values, are_for}
use Rattle.f3_elaboration.specs.Nodes as n
use Rattle.f3_elaboration.specs.Nodes.{ExpressionNode}
use Rattle.f3_elaboration.specs.Context.{Surroundings, base}
use Rattle.f3_elaboration.specs.Expressions as x
use Rattle.f3_elaboration.specs.Expressions.{expression, operand, items, parts, behind, given, given_by, perhaps, signed, type_of, meant, given_value, components_for}
use Rattle.f3_lawful_laws.specs.Written.{IsWritten, IsRestWritten, AreWritten, ArePartsWritten, IsBehindWritten, AreArgumentsWritten, IsArgumentWritten}
use Rattle.f3_lawful_laws.specs.Written.{IsPerhapsWritten}
use Rattle.f3_lawful_laws.proofs.Facts.{no, not_nil, first, second, both}
use Rattle.f3_lawful_laws.proofs.Typed.{fit}
use Rattle.f3_formed_laws.specs.Agreement.{AgreesInKinds}
use Rattle.f3_formed_laws.specs.Levels.{AreOfSort, IsLevelled, IsRestLevelled, AreLevelled, ArePartsLevelled, IsBehindLevelled, AreArgumentsLevelled}
use Rattle.f3_formed_laws.specs.Levels.{IsArgumentLevelled, IsPerhapsLevelled}
use Rattle.f3_formed_laws.specs.Nodes.{arguments}
use Rattle.f3_formed_laws.proofs.Alike.{IsOf, AreGiven, IsBehind}
use Rattle.f3_formed_laws.proofs.Scalars.{scalar, typed_of}
use Rattle.f3_formed_laws.proofs.Operators.{RestIs, type_number}
use Rattle.f3_formed_laws.proofs.Intrinsics.{Pair, IsFunction, Zipped, zipped}
use Rattle.f3_formed_laws.proofs.Expressions as formed
use Rattle.f3_fitting_laws.specs.Bounded.{IsBounded, IsRestBounded, AreBounded, ArePartsBounded, IsBehindBounded, AreArgumentsBounded, IsArgumentBounded, IsPerhapsBounded}
use Rattle.f3_fitting_laws.specs.Bounded.{HasWords}
use Rattle.f3_fitting_laws.proofs.Nodes.{arguments_fit}
use Rattle.f3_fitting_laws.proofs.Operators.{Of, unary_fit, comparison_fit, RestFits, chain_fits}
use Rattle.f3_fitting_laws.proofs.Parts.{Fits, MayFit, GivenFits, BehindFits, PartsFit, variable_fits, passed_all, stored_all, all_given}
use Rattle.f3_fitting_laws.proofs.Constructors.{items_are_values, structure_for, found_some}
use Rattle.f3_fitting_laws.proofs.Intrinsics.{intrinsic_fits}

module _ (p : Program) (c : Scope) (s : Surroundings) (agrees : AgreesInKinds p c.variables c.names s) (words : HasWords s.context) where
  abbrev Is : ExpressionNode → Option Has → Type 0
  Is e o = IsOf p c.variables c.names s e o

  -- ---- a designator, by what its first name means

  abbrev Rows : Name → Option (List said.Given) → List Part → Meaning → List Break
  Rows m b rs meaning =
      sense_rows s.context role.Expression (m, b) rs (sense_of (s.context).unit role.Expression m meaning (called role.Expression rs b))

  abbrev Said_of : Name → Option (List said.Given) → List Part → Meaning → Option Has
  Said_of m b rs meaning = sense_has s.context role.Expression (m, b) rs (sense_of (s.context).unit role.Expression m meaning (called role.Expression rs b))

  abbrev Node : Name → Option (List x.Given) → List x.Part → Option (List said.Given) → List Part → Meaning → ExpressionNode
  Node m g qs b rs meaning = meant s (type_in (Said_of m b rs meaning)) (m, g) qs meaning

  structure_fits : (e : ℕ) (ks : List (ℕ × Component)) (gs : List x.Given) (ys : List said.Given) → AreGiven p c.variables c.names s gs ys
      → Each (GivenFits p c) gs → (o : Option Has) → Is (n.structure (s.type e) (components_for ks 0 gs)) o → Fits p c (n.structure (s.type e) (components_for ks 0 gs))
  structure_fits e ks gs ys given f None h = absurd h
  structure_fits e ks gs ys given f (Some y) h =
      both (some (given_all (arguments p c.variables c.names (components_for ks 0 gs))) (are_for p.types.items (s.type e))) _
      (structure_for p c s (s.type e) ks gs ys given _ h.value) (stored_all p c ks 0 gs f)

  intrinsic_meant : (r : Intrinsic) → (m : Name) (gs : List x.Given) (ys : List said.Given) → AreGiven p c.variables c.names s gs ys → Each (GivenFits p c) gs
      → intrinsic_rows m r ys ≡ [] → has_type (intrinsic_has r ys) ≡ true
      → Fits p c (x.intrinsic_value (base s (type_in (intrinsic_has r ys))) r (map given_value gs))
  intrinsic_meant r m gs ys given f rows typed =
      by_zipped (zipped p c.variables c.names s r None 0 gs ys given own)
    where
      own : actual_rows r None 0 ys ≡ []
      own = first _ _ rows

      result : (b : Bool) (y : Has) → has_type (if b then Some y else None) ≡ true → type_in (if b then Some y else None) ≡ y.data_type
      result true y t = refl
      result false y t = no (sym t)

      by_zipped : Zipped p c.variables c.names s gs ys → Fits p c (x.intrinsic_value (base s (type_in (intrinsic_has r ys))) r (map given_value gs))
      by_zipped z =
          subst (λ o. Fits p c (x.intrinsic_value (base s o) r (map given_value gs)))
          (sym (result (intrinsic_parts r ys && not (nat_lt (length ys) (least_count r))) _ typed))
          (subst (λ es. Fits p c (x.intrinsic_value (base s (typed_result r ys)) r es)) (sym z.nodes)
          (subst (λ zs. Fits p c (x.intrinsic_value (base s (typed_result r zs)) r (map (λ (q : Pair). q.0) z.pairs))) (sym z.saids)
          (intrinsic_fits p c s r z.pairs z.are (subst (Each (Fits p c)) z.nodes (all_given p c gs f)) (ap (actual_rows r None 0) (sym z.saids) ∙ own))))

  by_entity : (m : Name) (g : Option (List x.Given)) (qs : List x.Part) (b : Option (List said.Given)) (rs : List Part) (e : ℕ) (nature : Nature)
      → IsBehind p c.variables c.names s g b → BehindFits p c g → PartsFit p c qs
      → Rows m b rs (entity e nature) ≡ [] → Is (Node m g qs b rs (entity e nature)) (Said_of m b rs (entity e nature))
      → Fits p c (Node m g qs b rs (entity e nature))
  by_entity m g qs b rs e (variable o) behind f q rows is = variable_fits p c s e o (m, g) qs f q
  by_entity m g qs b rs e (constant o) behind f q rows is = words e
  by_entity m (Some gs) qs b rs e (function pure ds o) behind f q rows is = passed_all p c ds 0 gs f
  by_entity m None qs b rs e (function pure ds o) behind f q rows is = refl
  by_entity m (Some gs) qs (Some ys) rs e (derived home ks d) behind f q rows is = structure_fits e ks gs ys behind f (Said_of m (Some ys) rs (entity e (derived home ks d))) is
  by_entity m None qs (Some ys) rs e (derived home ks d) behind f q rows is = absurd behind
  by_entity m (Some gs) qs None rs e (derived home ks d) behind f q rows is = absurd behind
  by_entity m None qs None [] e (derived home ks d) behind f q rows is = not_nil rows
  by_entity m None qs None (r ∷ rs) e (derived home ks d) behind f q rows is = not_nil rows
  by_entity m g qs b rs e (subroutine pure ds) behind f q rows is = refl

  by_function : (m : Name) (g : Option (List x.Given)) (qs : List x.Part) (b : Option (List said.Given)) (rs : List Part) (r : Intrinsic) → IsFunction r
      → IsBehind p c.variables c.names s g b → BehindFits p c g → Rows m b rs (intrinsic r) ≡ []
      → has_type (Said_of m b rs (intrinsic r)) ≡ true → Fits p c (Node m g qs b rs (intrinsic r))
  by_function m g qs b rs i.MoveAlloc w behind f rows typed = absurd w
  by_function m (Some gs) qs (Some ys) [] r w behind f rows typed = intrinsic_meant r m gs ys behind f rows typed
  by_function m None qs (Some ys) [] r w behind f rows typed = absurd behind
  by_function m g qs None [] r w behind f rows typed = not_nil rows
  by_function m g qs b (y ∷ rs) r w behind f rows typed = not_nil rows

  by_intrinsic : (m : Name) (g : Option (List x.Given)) (qs : List x.Part) (b : Option (List said.Given)) (rs : List Part) (r : Intrinsic)
      → IsBehind p c.variables c.names s g b → BehindFits p c g → Rows m b rs (intrinsic r) ≡ []
      → has_type (Said_of m b rs (intrinsic r)) ≡ true → Fits p c (Node m g qs b rs (intrinsic r))
  by_intrinsic m g qs b rs i.MoveAlloc behind f rows typed = not_nil rows
  by_intrinsic m g qs b rs i.Abs behind f rows typed = by_function m g qs b rs i.Abs tt behind f rows typed
  by_intrinsic m g qs b rs i.Mod behind f rows typed = by_function m g qs b rs i.Mod tt behind f rows typed
  by_intrinsic m g qs b rs i.Modulo behind f rows typed = by_function m g qs b rs i.Modulo tt behind f rows typed
  by_intrinsic m g qs b rs i.Max behind f rows typed = by_function m g qs b rs i.Max tt behind f rows typed
  by_intrinsic m g qs b rs i.Min behind f rows typed = by_function m g qs b rs i.Min tt behind f rows typed
  by_intrinsic m g qs b rs i.Size behind f rows typed = by_function m g qs b rs i.Size tt behind f rows typed
  by_intrinsic m g qs b rs i.LowerBound behind f rows typed = by_function m g qs b rs i.LowerBound tt behind f rows typed
  by_intrinsic m g qs b rs i.UpperBound behind f rows typed = by_function m g qs b rs i.UpperBound tt behind f rows typed
  by_intrinsic m g qs b rs i.Allocated behind f rows typed = by_function m g qs b rs i.Allocated tt behind f rows typed

  meant_fits : (m : Name) (g : Option (List x.Given)) (qs : List x.Part) (b : Option (List said.Given)) (rs : List Part)
      → IsBehind p c.variables c.names s g b → BehindFits p c g → PartsFit p c qs → (meaning : Meaning)
      → Rows m b rs meaning ≡ [] → Is (Node m g qs b rs meaning) (Said_of m b rs meaning) → Fits p c (Node m g qs b rs meaning)
  meant_fits m g qs b rs behind f q nothing rows is = not_nil rows
  meant_fits m g qs b rs behind f q several rows is = not_nil rows
  meant_fits m g qs b rs behind f q (intrinsic r) rows is =
      by_intrinsic m g qs b rs r behind f rows (typed_of p c.variables c.names s (Node m g qs b rs (intrinsic r)) (Said_of m b rs (intrinsic r)) is)
  meant_fits m g qs b rs behind f q (entity e nature) rows is = by_entity m g qs b rs e nature behind f q rows is

  -- ---- operators

  all_fit : (want : Wanted) (os : t.Rest) → RestIs p c.variables c.names s os → flat_map (scalar_rows want) (said_rest s.context os) ≡ []
      → list_all (fits want) (said_rest s.context os) ≡ true
  all_fit want t.no_more r e = refl
  all_fit want (t.more o f os) r e =
      both _ _ (fit want (typing.said s.context f) (typed_of p c.variables c.names s (expression s f) (typing.said s.context f).has r.0) (first _ _ e))
      (all_fit want os r.1 (second (scalar_rows want (typing.said s.context f)) _ e))

  scalar_is : (want : Wanted) (e : t.Tree) → Is (expression s e) (typing.said s.context e).has → scalar_rows want (typing.said s.context e) ≡ [] → Of p c s want (expression s e)
  scalar_is want e h rows =
      scalar p c.variables c.names s want (expression s e) (typing.said s.context e).has h
      (fit want (typing.said s.context e) (typed_of p c.variables c.names s (expression s e) (typing.said s.context e).has h) rows)

  chained : (e : t.Tree) (os : t.Rest) → AreOfSort (level_of os) os → Is (expression s e) (typing.said s.context e).has → RestIs p c.variables c.names s os
      → Fits p c (expression s e) → RestFits p c s os → chain_rows (level_of os) (typing.said s.context e) (said_rest s.context os) ≡ []
      → Fits p c (x.chain s (operand s e (expression s e)) os).0
  chained e t.no_more sort h r f q rows = f
  chained e (t.more o g os) sort h r f q rows =
      chain_fits p c s (wanted_by o) (operand s e (expression s e)) (t.more o g os) sort (scalar_is (wanted_by o) e h (first _ _ rows)) f r q
      (all_fit (wanted_by o) (t.more o g os) r (second (scalar_rows (wanted_by o) (typing.said s.context e)) _ rows))

  signed_fits : (sign : Sign) (e : t.Tree) → Is (expression s e) (typing.said s.context e).has → scalar_rows wanted.Integer (typing.said s.context e) ≡ []
      → Fits p c (expression s e) → Fits p c (signed sign (base s (type_of s e)) (expression s e))
  signed_fits Plus e h rows f = f
  signed_fits Minus e h rows f =
      let fitting : fits wanted.Integer (typing.said s.context e) ≡ true =
      fit wanted.Integer (typing.said s.context e) (typed_of p c.variables c.names s (expression s e) (typing.said s.context e).has h) rows in
      unary_fit p c s Negate (base s (type_of s e)) (expression s e) (type_number p c.variables c.names s (typing.said s.context e).has fitting)
      (scalar_is wanted.Integer e h rows) f

  array_fits : (es : t.Trees) (o : Option Has) → Is (n.array (items s es)) o → arguments_fit p c (items s es) ≡ true → Fits p c (n.array (items s es))
  array_fits es None h f = absurd h
  array_fits es (Some y) h f =
      let r = found_some (given_all (arguments p c.variables c.names (items s es))) _ _ h.value in
      both (some (given_all (arguments p c.variables c.names (items s es))) are_values) _
      (ap (λ o. some o are_values) r.1 ∙ items_are_values p c s es r.0 r.1) f

  expression_is : (e : t.Tree) → IsWritten e → IsLevelled e → breaks s.context e ≡ [] → Is (expression s e) (typing.said s.context e).has
  expression_is e w l b = formed.expression_is p c.variables c.names s agrees e w l b

  rest_is : (os : t.Rest) → IsRestWritten os → IsRestLevelled os → breaks_rest s.context os ≡ [] → RestIs p c.variables c.names s os
  rest_is t.no_more w l b = tt
  rest_is (t.more o e os) w l b = (expression_is e w.0 l.0 (first _ _ b), rest_is os w.1 l.1 (second (breaks s.context e) _ b))

  mutual
    pub expression_fits : (e : t.Tree) → IsWritten e → IsLevelled e → IsBounded e → breaks s.context e ≡ [] → Fits p c (expression s e)
    expression_fits (t.integer at z) w l d b = d
    expression_fits (t.truth at v) w l d b = refl
    expression_fits (t.text at k) w l d b = not_nil b
    expression_fits (t.designator t.no_parts) w l d b = absurd w.0
    expression_fits (t.designator (t.parts m g ps)) w l d b =
        let own = first (breaks_parts s.context (t.parts m g ps)) _ b in
        let g_is = formed.behind_is p c.variables c.names s agrees g w.1.0 l.0 (first _ _ own) in
        meant_fits m (behind s g) (parts s ps) (said_behind s.context g) (said_parts s.context ps) g_is
        (behind_fits g w.1.0 l.0 d.0 (first _ _ own)) (parts_fit ps w.1.1 l.1 d.1 (second (breaks_behind s.context g) _ own))
        (meaning_of s.context m.symbol) (second (breaks_parts s.context (t.parts m g ps)) _ b)
        (expression_is (t.designator (t.parts m g ps)) w l b)
    expression_fits (t.group at e) w l d b = expression_fits e w l d b
    expression_fits (t.array at es) w l d b =
        array_fits es (typing.said s.context (t.array at es)).has (expression_is (t.array at es) w l b) (items_fit es w.1 l d (first (breaks_all s.context es) _ b))
    expression_fits (t.signed at sign e) w l d b =
        signed_fits sign e (expression_is e w l (first _ _ b)) (second (breaks s.context e) _ b) (expression_fits e w l d (first _ _ b))
    expression_fits (t.negation at e) w l d b =
        unary_fit p c s Not base_is.Logical (expression s e) refl (scalar_is wanted.Logical e (expression_is e w l (first _ _ b)) (second (breaks s.context e) _ b))
        (expression_fits e w l d (first _ _ b))
    expression_fits (t.comparison e r f) w l d b =
        let behind = second (breaks s.context e) _ b in
        let rows = second (breaks s.context f) _ behind in
        comparison_fit p c s r (expression s e) (expression s f) (scalar_is wanted.Integer e (expression_is e w.0 l.0 (first _ _ b)) (first _ _ rows))
        (scalar_is wanted.Integer f (expression_is f w.1 l.1 (first _ _ behind)) (second (scalar_rows wanted.Integer (typing.said s.context e)) _ rows))
        (expression_fits e w.0 l.0 d.0 (first _ _ b)) (expression_fits f w.1 l.1 d.1 (first _ _ behind))
    expression_fits (t.chain e os) w l d b =
        let behind = second (breaks s.context e) _ b in
        chained e os l.0 (expression_is e w.0 l.1 (first _ _ b)) (rest_is os w.1 l.2 (first _ _ behind))
        (expression_fits e w.0 l.1 d.0 (first _ _ b)) (rest_fits os w.1 l.2 d.1 (first _ _ behind)) (second (breaks_rest s.context os) _ behind)

    rest_fits : (os : t.Rest) → IsRestWritten os → IsRestLevelled os → IsRestBounded os → breaks_rest s.context os ≡ [] → RestFits p c s os
    rest_fits t.no_more w l d b = tt
    rest_fits (t.more o e os) w l d b = (expression_fits e w.0 l.0 d.0 (first _ _ b), rest_fits os w.1 l.1 d.1 (second (breaks s.context e) _ b))

    items_fit : (es : t.Trees) → AreWritten es → AreLevelled es → AreBounded es → breaks_all s.context es ≡ [] → arguments_fit p c (items s es) ≡ true
    items_fit t.no_trees w l d b = refl
    items_fit (t.trees e es) w l d b = both _ _ (expression_fits e w.0 l.0 d.0 (first _ _ b)) (items_fit es w.1 l.1 d.1 (second (breaks s.context e) _ b))

    pub parts_fit : (ps : t.Parts) → ArePartsWritten ps → ArePartsLevelled ps → ArePartsBounded ps → breaks_parts s.context ps ≡ [] → PartsFit p c (parts s ps)
    parts_fit t.no_parts w l d b = tt
    parts_fit (t.parts m g ps) w l d b = (behind_fits g w.0 l.0 d.0 (first _ _ b), parts_fit ps w.1 l.1 d.1 (second (breaks_behind s.context g) _ b))

    behind_fits : (g : t.Behind) → IsBehindWritten g → IsBehindLevelled g → IsBehindBounded g → breaks_behind s.context g ≡ [] → BehindFits p c (behind s g)
    behind_fits t.bare w l d b = tt
    behind_fits (t.within list) w l d b = arguments_fits list w l d b

    pub arguments_fits : (list : t.Arguments) → AreArgumentsWritten list → AreArgumentsLevelled list → AreArgumentsBounded list → breaks_arguments s.context list ≡ []
        → Each (GivenFits p c) (given s list)
    arguments_fits t.no_arguments w l d b = tt
    arguments_fits (t.arguments a others) w l d b =
        (argument_fits a w.0 l.0 d.0 (first _ _ b), arguments_fits others w.1 l.1 d.1 (second (breaks_argument s.context a) _ b))

    argument_fits : (a : t.ArgumentTree) → IsArgumentWritten a → IsArgumentLevelled a → IsArgumentBounded a → breaks_argument s.context a ≡ [] → GivenFits p c (given_by s a)
    argument_fits (t.value keyword e) w l d b = expression_fits e w l d b
    argument_fits (t.triplet at a e f) w l d b =
        let behind = second (breaks_perhaps s.context a) _ b in
        (perhaps_fits a w.0 l.0 d.0 (first _ _ b), perhaps_fits e w.1 l.1 d.1 (first _ _ behind), perhaps_fits f w.2 l.2 d.2 (second (breaks_perhaps s.context e) _ behind))

    perhaps_fits : (a : t.Perhaps) → IsPerhapsWritten a → IsPerhapsLevelled a → IsPerhapsBounded a → breaks_perhaps s.context a ≡ [] → MayFit p c (perhaps s a)
    perhaps_fits t.absent w l d b = tt
    perhaps_fits (t.present e) w l d b = expression_fits e w l d b
