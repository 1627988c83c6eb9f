-- A designator, a reference or a constructor in an expression is of the kind that is said, by what its first name means.
use Rattle.std.proofs.Common.{◌≡◌, ℕ, Bool, true, false, ◌&&◌, ◌||◌, not, nat_eq, List, [], ◌∷◌, length, map, Option, Some, None, refl, sym, ap, ◌∙◌, if◌then◌else◌, nat_lt}
use Rattle.std.specs.Prelude.{◌==◌}
use mathlib.Core.Path.{subst}
use Rattle.f3_lookups.specs.declared.lookup.Lookup.{Lookup}
use Rattle.f3_lookups.specs.declared.lookup.Lookup.TheVariants.{One, Nothing, Several}
use Rattle.f3_rules.specs.declared.breaks.Break.{Break}
use Rattle.f3_tree.specs.declared.expression.Name.{Name}
use Rattle.f3_program.specs.declared.declarations.Base.TheVariants as base_is
use Rattle.f3_program.specs.declared.declarations.Constant.{Constant}
use Rattle.f3_program.specs.declared.declarations.Constant.TheVariants as constant_is
use Rattle.f3_program.specs.declared.declarations.Declared.{Declared}
use Rattle.f3_program.specs.declared.declarations.Kind.{Kind}
use Rattle.f3_program.specs.declared.program.Program.{Program}
use Rattle.f3_kinds.specs.declared.types.DataType.TheVariants.{Derived}
use Rattle.f3_kinds.specs.declared.types.Object.{Object}
use Rattle.f3_kinds.specs.declared.said.Form.TheVariants as form
use Rattle.f3_kinds.specs.declared.said.Has.{Has}
use Rattle.f3_kinds.specs.declared.said.Given.{Given}
use Rattle.f3_kinds.specs.declared.said.Role.TheVariants as role
use Rattle.f3_kinds.specs.declared.things.Component.{Component}
use Rattle.f3_kinds.specs.declared.things.Dummy.{Dummy}
use Rattle.f3_kinds.specs.declared.things.Intrinsic.{Intrinsic}
use Rattle.f3_kinds.specs.declared.things.Intrinsic.TheVariants as i
use Rattle.f3_kinds.specs.Things.{Nature, constant, variable, derived, subroutine, function, Meaning, nothing, intrinsic, entity, entity_or, meaning_by, meaning_of}
use Rattle.f3_kinds.specs.Things.{look_here, map_or}
use Rattle.f3_kinds.specs.Rows.{has_type, is_known, unless, computed}
use Rattle.f3_kinds.specs.Operands.{type_in}
use Rattle.f3_kinds.specs.Designators.{Part, reach_has, object_reach, object_rows, enter_rows, start, along_rows, step_selected_rows, select, count_is_right}
use Rattle.f3_kinds.specs.Calls.{least_count, no_match, function_has, function_rows, are_right, is_complete, argument_rows, intrinsic_has, intrinsic_parts, actual_rows, typed_result}
use Rattle.f3_kinds.specs.Calls.{intrinsic_rows, constructor_has, keeps_type, constructor_parts, constructor_rows, constructor_given, is_constructed, no_breaks, result_has}
use Rattle.f3_kinds.specs.Typing.{called, sense_of, sense_has, sense_rows}
use Rattle.f3_meaning_whole.specs.Formed.{of_kind, alike, found, valued}
use Rattle.f3_elaboration.specs.Nodes as n
use Rattle.f3_elaboration.specs.Nodes.{ExpressionNode}
use Rattle.f3_elaboration.specs.Declarations.{constant_of}
use Rattle.f3_elaboration.specs.Context.{Surroundings, base}
use Rattle.f3_elaboration.specs.Expressions as x
use Rattle.f3_elaboration.specs.Expressions.{meant, given_value, arguments_for, components_for, is_whole_allocatable}
use Rattle.f3_lawful_laws.proofs.Facts.{no, not_nil, first, second, holds, both, left, right, when_true}
use Rattle.f3_lawful_laws.proofs.Positions.{eq_same}
use Rattle.f3_lawful_laws.proofs.Designating.{Enters, enters, Selects, selects}
use Rattle.f3_lawful_laws.proofs.Calling.{fitting, intrinsic_typed, intrinsic_counted}
use Rattle.f3_formed_laws.specs.Nodes.{value_kind}
use Rattle.f3_formed_laws.specs.Agreement.{AgreesInKinds, IsConstant, constant_type}
use Rattle.f3_formed_laws.proofs.Facts.{implied}
use Rattle.f3_formed_laws.proofs.Bases.{alike_equal}
use Rattle.f3_formed_laws.proofs.Alike.{IsHeldAs, IsKind, IsOf, AreGiven, IsBehind, AreParts}
use Rattle.f3_formed_laws.proofs.Scalars.{all_typed, behind_typed}
use Rattle.f3_formed_laws.proofs.Walking.{Stands, stands, entered_count}
use Rattle.f3_formed_laws.proofs.Passing.{reference_is}
use Rattle.f3_formed_laws.proofs.Storing.{structure_is}
use Rattle.f3_formed_laws.proofs.Intrinsics.{Pair, IsFunction, Zipped, zipped, intrinsic_is, result_as}

no_break : (bs : List Break) → bs ≡ [] → no_breaks bs ≡ true
no_break [] e = refl
no_break (b ∷ bs) e = not_nil e

if_parts : (b : Bool) (y : List Break) → b ≡ true → (if b then y else []) ≡ [] → y ≡ []
if_parts true y h e = e
if_parts false y h e = no (sym h)

module _ (p : Program) (vs : List Declared) (ns : List Kind) (s : Surroundings) (agrees : AgreesInKinds p vs ns s) where
  pub some_is : (e : ExpressionNode) (b : Bool) (h : Has) → b ≡ true → IsKind p vs ns s e h → IsOf p vs ns s e (if b then Some h else None)
  some_is e true h c k = k
  some_is e false h c k = no (sym c)

  -- a variable or a part of one
  variable_is : (m : Name) (g : Option (List x.Given)) (qs : List x.Part) (b : Option (List Given)) (rs : List Part) (e : ℕ) (o : Object) → look_here s.context m.symbol ≡ One e
      → (s.context).nature e ≡ Some (variable o) → IsBehind p vs ns s g b → AreParts p vs ns s qs rs → object_rows s.context role.Expression o (m, b) rs ≡ []
      → IsOf p vs ns s (n.variable (x.variable_of s e o (m, g) qs)) (reach_has (form.Variable e) role.Expression (object_reach s.context role.Expression o (m, b) rs))
  variable_is m g qs b rs e o looked nature behind parts rows =
      by_stands
      (stands p vs ns s agrees (form.Variable e) e o (m, g) qs (m, b) rs (agrees.known.variables m.symbol e o looked nature) (agrees.objects m.symbol e o looked nature)
      behind parts rows)
    where
      by_stands : Stands p vs ns s agrees (form.Variable e) e o (m, g) qs (m, b) rs
          → IsOf p vs ns s (n.variable (x.variable_of s e o (m, g) qs)) (reach_has (form.Variable e) role.Expression (object_reach s.context role.Expression o (m, b) rs))
      by_stands h = subst (IsOf p vs ns s (n.variable (x.variable_of s e o (m, g) qs))) (sym h.is) record {
        typed = h.known;
        of = base s (h.has).data_type;
        value = ap (λ o. found o valued) h.kind;
        alike_to = alike_equal (base s (h.has).data_type) (base s (h.has).data_type) refl;
        is_as = (h.kind, subst (IsHeldAs (is_whole_allocatable (x.variable_of s e o (m, g) qs)) h.has) (sym h.form_is) h.held);
      }

  -- ---- named constants

  constant_kind : (c : Constant) → value_kind p vs ns (n.literal c) ≡ Some (of_kind (constant_type c) 0)
  constant_kind (constant_is.Number z) = refl
  constant_kind (constant_is.Truth b) = refl

  never_derived : (c : Constant) (k : ℕ) → alike (constant_type c) (base_is.Derived k) ≡ true → ⊥
  never_derived (constant_is.Number z) k e = no (sym e)
  never_derived (constant_is.Truth b) k e = no (sym e)

  constant_alone : (c : Constant) (o : Object) → o.rank ≡ 0 → o.is_allocatable ≡ false → is_known o.data_type ≡ true → alike (constant_type c) (base s o.data_type) ≡ true
      → IsKind p vs ns s (n.literal c) (record { data_type = o.data_type; rank = o.rank; is_allocatable = o.is_allocatable && true; form = form.Constant })
  constant_alone c o rank plain known a = record {
    typed = known;
    of = constant_type c;
    value = constant_kind c ∙ ap (λ r. Some (of_kind (constant_type c) r)) (sym rank);
    alike_to = a;
    is_as = (ap (λ b. b && true) plain, tt);
  }

  constant_named : (e : ℕ) (o : Object) (m : Name) (g : Option (List x.Given)) (qs : List x.Part) (b : Option (List Given)) (rs : List Part) → IsConstant s e o → is_known o.data_type ≡ true
      → IsBehind p vs ns s g b → AreParts p vs ns s qs rs → object_rows s.context role.Expression o (m, b) rs ≡ []
      → IsOf p vs ns s (n.literal (constant_of ((s.context).value e))) (reach_has form.Constant role.Expression (object_reach s.context role.Expression o (m, b) rs))
  constant_named e o m None [] None [] is known behind parts rows =
      constant_alone (constant_of ((s.context).value e)) o is.scalar is.plain known is.alike_to
  constant_named e o m (Some gs) qs None rs is known behind parts rows = absurd behind
  constant_named e o m None qs (Some ys) rs is known behind parts rows = absurd behind
  constant_named e o m None (q ∷ qs) None [] is known behind parts rows = absurd parts
  constant_named e o m (Some gs) qs (Some ys) [] is known behind parts rows =
      let inside : Enters false (start o) o (Some ys) = enters false (start o) o (m, Some ys) refl (behind_typed p vs ns s (Some gs) (Some ys) behind) (first _ _ rows) in
      let count : count_is_right false o (Some ys) ≡ true = (entered_count false (start o) o (Some ys) inside).1 in
      let none : length ys ≡ 0 = eq_same (length ys) o.rank (left _ _ (left _ _ count)) ∙ is.scalar in
      no (sym (sym (ap (λ k. not (k == 0)) none) ∙ right (length ys == o.rank) _ (left _ _ count)))
  constant_named e o m g qs b (r ∷ rs) is known behind parts rows =
      absurd (further g b behind rows)
    where
      further : (g : Option (List x.Given)) (b : Option (List Given)) → IsBehind p vs ns s g b → object_rows s.context role.Expression o (m, b) (r ∷ rs) ≡ [] → ⊥
      further g b behind rows =
          let inside : Enters false (start o) o b = enters false (start o) o (m, b) refl (behind_typed p vs ns s g b behind) (first _ _ rows) in
          let all : along_rows s.context role.Expression (r ∷ rs) (Some inside.reach) ≡ [] =
          subst (λ z. along_rows s.context role.Expression (r ∷ rs) z ≡ []) inside.is (first _ _ (second (enter_rows false o (m, b)) _ rows)) in
          let own : step_selected_rows false r (select s.context inside.reach.object r.0) ≡ [] = first _ _ all in
          let own_here : step_selected_rows false r (select s.context o r.0) ≡ [] = ap (λ o. step_selected_rows false r (select s.context o r.0)) (sym inside.object) ∙ own in
          by_selected (selects s.context false o r known own_here).2
        where
          by_selected : {k : Component} → Selects s.context o r.0 k → ⊥
          by_selected h = never_derived (constant_of ((s.context).value e)) (s.type h.type) (sym (ap (λ t. alike (constant_type (constant_of ((s.context).value e))) (base s t)) h.of) ∙ is.alike_to)

  -- ---- references and constructors

  function_is : (e : ℕ) (pure : Bool) (ds : List (ℕ × Dummy)) (o : Object) (m : Name) (gs : List x.Given) (ys : List Given)
      → (s.context).nature e ≡ Some (function pure ds o) → AreGiven p vs ns s gs ys → function_rows m ds ys ≡ []
      → IsOf p vs ns s (n.reference (s.procedure e) (arguments_for ds 0 gs)) (function_has ds o ys)
  function_is e pure ds o m gs ys nature given rows =
      let known = agrees.known.natures e (function pure ds o) nature in
      let q = agrees.functions e pure ds o nature in
      let arguments : argument_rows ds 0 ys no_match ≡ [] = first _ _ rows in
      let right_all : are_right ds ys ≡ true = both _ _ (all_typed p vs ns s gs ys given) (fitting ds 0 ys no_match arguments) in
      let complete : is_complete ds ys ≡ true = implied (are_right ds ys) (is_complete ds ys) (holds _ _ (second (argument_rows ds 0 ys no_match) _ rows)) right_all in
      some_is (n.reference (s.procedure e) (arguments_for ds 0 gs)) (are_right ds ys && is_complete ds ys) (result_has o) (both _ _ right_all complete) record {
        typed = known.1;
        of = base s o.data_type;
        value = reference_is p vs ns s e ds q.0 gs ys known.0 given arguments complete ∙ ap (λ k. Some k) q.1;
        alike_to = alike_equal (base s o.data_type) (base s o.data_type) refl;
        is_as = (refl, tt);
      }

  construction_is : (e home : ℕ) (inside : Bool) (ks : List (ℕ × Component)) (f : Bool) (m : Name) (gs : List x.Given) (ys : List Given)
      → (s.context).nature e ≡ Some (derived home ks f) → AreGiven p vs ns s gs ys → constructor_rows (s.context).phase m inside ks f ys ≡ []
      → IsOf p vs ns s (n.structure (s.type e) (components_for ks 0 gs)) (constructor_has (s.context).phase e inside ks f ys)
  construction_is e home inside ks f m gs ys nature given rows =
      let own : constructor_given inside ks 0 ys ≡ [] = first _ _ rows in
      let parts : constructor_parts inside ks ys ≡ true = both _ _ (all_typed p vs ns s gs ys given) (no_break _ own) in
      let behind = if_parts (constructor_parts inside ks ys) _ parts (second (constructor_given inside ks 0 ys) _ rows) in
      let built : is_constructed ks ys ≡ true = holds _ _ (first _ _ behind) in
      some_is (n.structure (s.type e) (components_for ks 0 gs)) (constructor_parts inside ks ys && is_constructed ks ys && keeps_type (s.context).phase f) (computed (Derived e) 0)
      (both _ _ (both _ _ parts built) (ap (λ b. b || not (nat_eq (s.context).phase 6)) (holds _ _ (second (unless (is_constructed ks ys) _) _ behind)))) record {
        typed = refl;
        of = base_is.Derived (s.type e);
        value = structure_is p vs ns s inside e ks (agrees.types e home ks f nature) gs ys (agrees.known.natures e (derived home ks f) nature) given own (left _ _ built);
        alike_to = alike_equal (base_is.Derived (s.type e)) (base_is.Derived (s.type e)) refl;
        is_as = (refl, tt);
      }

  intrinsic_said : (r : Intrinsic) → IsFunction r → (m : Name) (gs : List x.Given) (ys : List Given) → AreGiven p vs ns s gs ys → intrinsic_rows m r ys ≡ []
      → IsOf p vs ns s (x.intrinsic_value (base s (type_in (intrinsic_has r ys))) r (map given_value gs)) (intrinsic_has r ys)
  intrinsic_said r w m gs ys given rows =
      let typed = all_typed p vs ns s gs ys given in
      let own : actual_rows r None 0 ys ≡ [] = first _ _ rows in
      let count : nat_lt (length ys) (least_count r) ≡ false = intrinsic_counted m r ys typed rows in
      let parts : intrinsic_parts r ys ≡ true = both _ _ typed (no_break _ own) in
      let is : intrinsic_has r ys ≡ Some (result_as (typed_result r ys)) =
      when_true (intrinsic_parts r ys && not (nat_lt (length ys) (least_count r))) _ None (both _ _ parts (ap not count)) in
      by_zipped own count (sym (ap has_type is) ∙ intrinsic_typed m r ys typed rows) is (zipped p vs ns s r None 0 gs ys given own)
    where
      by_zipped : actual_rows r None 0 ys ≡ [] → nat_lt (length ys) (least_count r) ≡ false → is_known (typed_result r ys) ≡ true
          → intrinsic_has r ys ≡ Some (result_as (typed_result r ys)) → Zipped p vs ns s gs ys
          → IsOf p vs ns s (x.intrinsic_value (base s (type_in (intrinsic_has r ys))) r (map given_value gs)) (intrinsic_has r ys)
      by_zipped own count known is z =
          subst (λ o. IsOf p vs ns s (x.intrinsic_value (base s (type_in o)) r (map given_value gs)) o) (sym is)
          (subst (λ es. IsKind p vs ns s (x.intrinsic_value (base s (typed_result r ys)) r es) (result_as (typed_result r ys))) (sym z.nodes)
          (subst (λ zs. IsKind p vs ns s (x.intrinsic_value (base s (typed_result r zs)) r (map (λ (q : Pair). q.0) z.pairs)) (result_as (typed_result r zs))) (sym z.saids)
          (intrinsic_is p vs ns s r w z.pairs z.are (ap (actual_rows r None 0) (sym z.saids) ∙ own) (ap (λ zs. nat_lt (length zs) (least_count r)) (sym z.saids) ∙ count)
          (ap (λ zs. is_known (typed_result r zs)) (sym z.saids) ∙ known))))

  -- ---- by what the first name means

  abbrev Rows : Name → Option (List Given) → List Part → Meaning → List Break
  Rows m b rs meaning =
      sense_rows s.context role.Expression (m, b) rs (sense_of (s.context).unit role.Expression m meaning (called role.Expression rs b))

  abbrev Said_of : Name → Option (List Given) → List Part → Meaning → Option Has
  Said_of m b rs meaning = sense_has s.context role.Expression (m, b) rs (sense_of (s.context).unit role.Expression m meaning (called role.Expression rs b))

  abbrev IsMeant : Name → Option (List x.Given) → List x.Part → Option (List Given) → List Part → Meaning → Type 0
  IsMeant m g qs b rs meaning = IsOf p vs ns s (meant s (type_in (Said_of m b rs meaning)) (m, g) qs meaning) (Said_of m b rs meaning)

  by_entity : (m : Name) (g : Option (List x.Given)) (qs : List x.Part) (b : Option (List Given)) (rs : List Part) (e : ℕ) (nature : Nature)
      → look_here s.context m.symbol ≡ One e → (s.context).nature e ≡ Some nature → IsBehind p vs ns s g b → AreParts p vs ns s qs rs
      → Rows m b rs (entity e nature) ≡ [] → IsMeant m g qs b rs (entity e nature)
  by_entity m g qs b rs e (variable o) looked is behind parts rows = variable_is m g qs b rs e o looked is behind parts rows
  by_entity m g qs b rs e (constant o) looked is behind parts rows =
      constant_named e o m g qs b rs (agrees.constants e o is) (agrees.known.natures e (constant o) is) behind parts rows
  by_entity m (Some gs) qs (Some ys) [] e (function pure ds o) looked is behind parts rows = function_is e pure ds o m gs ys is behind rows
  by_entity m None qs (Some ys) [] e (function pure ds o) looked is behind parts rows = absurd behind
  by_entity m g qs None [] e (function pure ds o) looked is behind parts rows = not_nil rows
  by_entity m g qs b (r ∷ rs) e (function pure ds o) looked is behind parts rows = not_nil rows
  by_entity m (Some gs) qs (Some ys) [] e (derived home ks f) looked is behind parts rows =
      construction_is e home (home == (s.context).unit) ks f m gs ys is behind rows
  by_entity m None qs (Some ys) [] e (derived home ks f) looked is behind parts rows = absurd behind
  by_entity m g qs None [] e (derived home ks f) looked is behind parts rows = not_nil rows
  by_entity m g qs b (r ∷ rs) e (derived home ks f) looked is behind parts rows = not_nil rows
  by_entity m g qs b rs e (subroutine pure ds) looked is behind parts rows = not_nil rows

  by_function : (m : Name) (g : Option (List x.Given)) (qs : List x.Part) (b : Option (List Given)) (rs : List Part) (r : Intrinsic) → IsFunction r
      → IsBehind p vs ns s g b → AreParts p vs ns s qs rs → Rows m b rs (intrinsic r) ≡ [] → IsMeant m g qs b rs (intrinsic r)
  by_function m g qs b rs i.MoveAlloc w behind parts rows = absurd w
  by_function m (Some gs) qs (Some ys) [] r w behind parts rows = intrinsic_said r w m gs ys behind rows
  by_function m None qs (Some ys) [] r w behind parts rows = absurd behind
  by_function m g qs None [] r w behind parts rows = not_nil rows
  by_function m g qs b (y ∷ rs) r w behind parts rows = not_nil rows

  by_intrinsic : (m : Name) (g : Option (List x.Given)) (qs : List x.Part) (b : Option (List Given)) (rs : List Part) (r : Intrinsic)
      → IsBehind p vs ns s g b → AreParts p vs ns s qs rs → Rows m b rs (intrinsic r) ≡ [] → IsMeant m g qs b rs (intrinsic r)
  by_intrinsic m g qs b rs i.MoveAlloc behind parts rows = not_nil rows
  by_intrinsic m g qs b rs i.Abs behind parts rows = by_function m g qs b rs i.Abs tt behind parts rows
  by_intrinsic m g qs b rs i.Mod behind parts rows = by_function m g qs b rs i.Mod tt behind parts rows
  by_intrinsic m g qs b rs i.Modulo behind parts rows = by_function m g qs b rs i.Modulo tt behind parts rows
  by_intrinsic m g qs b rs i.Max behind parts rows = by_function m g qs b rs i.Max tt behind parts rows
  by_intrinsic m g qs b rs i.Min behind parts rows = by_function m g qs b rs i.Min tt behind parts rows
  by_intrinsic m g qs b rs i.Size behind parts rows = by_function m g qs b rs i.Size tt behind parts rows
  by_intrinsic m g qs b rs i.LowerBound behind parts rows = by_function m g qs b rs i.LowerBound tt behind parts rows
  by_intrinsic m g qs b rs i.UpperBound behind parts rows = by_function m g qs b rs i.UpperBound tt behind parts rows
  by_intrinsic m g qs b rs i.Allocated behind parts rows = by_function m g qs b rs i.Allocated tt behind parts rows

  pub meant_is : (m : Name) (g : Option (List x.Given)) (qs : List x.Part) (b : Option (List Given)) (rs : List Part)
      → IsBehind p vs ns s g b → AreParts p vs ns s qs rs → Rows m b rs (meaning_of s.context m.symbol) ≡ [] → IsMeant m g qs b rs (meaning_of s.context m.symbol)
  meant_is m g qs b rs behind parts rows = by_look (look_here s.context m.symbol) refl rows
    where
      by_nature : (e : ℕ) → look_here s.context m.symbol ≡ One e → (o : Option Nature) → (s.context).nature e ≡ o → Rows m b rs (entity_or e o) ≡ []
          → IsMeant m g qs b rs (entity_or e o)
      by_nature e looked None is rows = not_nil rows
      by_nature e looked (Some nature) is rows = by_entity m g qs b rs e nature looked is behind parts rows

      by_name : (o : Option Intrinsic) → Rows m b rs (map_or nothing intrinsic o) ≡ [] → IsMeant m g qs b rs (map_or nothing intrinsic o)
      by_name None rows = not_nil rows
      by_name (Some r) rows = by_intrinsic m g qs b rs r behind parts rows

      by_look : (l : Lookup) → look_here s.context m.symbol ≡ l → Rows m b rs (meaning_by s.context m.symbol l) ≡ []
          → IsMeant m g qs b rs (meaning_by s.context m.symbol l)
      by_look (One e) looked rows = by_nature e looked ((s.context).nature e) refl rows
      by_look Nothing looked rows = by_name ((s.context).intrinsic m.symbol) rows
      by_look Several looked rows = not_nil rows
