-- A designator, a reference or a constructor in an expression, by what its first name means.
use Rattle.std.proofs.Common.{◌≡◌, ℕ, Bool, true, false, ◌&&◌, not, List, [], ◌∷◌, length, map, Option, Some, None, refl, sym, ap, ◌∙◌, if◌then◌else◌, nat_lt, suc}
use Rattle.std.specs.Prelude.{◌==◌}
use mathlib.Core.Path.{subst}
use Rattle.f3_lookups.specs.declared.lookup.Lookup.{Lookup}
use Rattle.f3_lookups.specs.declared.lookup.Lookup.TheVariants.{One, Nothing, Several}
use Rattle.f3_rules.specs.declared.breaks.Break.{Break}
use Rattle.f3_tree.specs.declared.expression.Name.{Name}
use Rattle.f3_program.specs.declared.program.Program.{Program}
use Rattle.f3_kinds.specs.declared.types.DataType.{DataType}
use Rattle.f3_kinds.specs.declared.types.Object.{Object}
use Rattle.f3_kinds.specs.declared.said.Form.TheVariants.{Constant, Variable}
use Rattle.f3_kinds.specs.declared.said.Has.{Has}
use Rattle.f3_kinds.specs.declared.said.Reach.{Reach}
use Rattle.f3_kinds.specs.declared.said.Given.{Given}
use Rattle.f3_kinds.specs.declared.said.Role.{Role}
use Rattle.f3_kinds.specs.declared.said.Role.TheVariants as role
use Rattle.f3_kinds.specs.declared.things.Component.{Component}
use Rattle.f3_kinds.specs.declared.things.Dummy.{Dummy}
use Rattle.f3_kinds.specs.declared.things.Intrinsic.{Intrinsic}
use Rattle.f3_kinds.specs.declared.things.Intrinsic.TheVariants as i
use Rattle.f3_kinds.specs.Things.{Nature, constant, variable, derived, subroutine, function, Meaning, nothing, intrinsic, entity, entity_or, meaning_by, meaning_of}
use Rattle.f3_kinds.specs.Things.{look_here, map_or}
use Rattle.f3_kinds.specs.Designators.{Part, role_fits, reach_has, object_reach, object_rows}
use Rattle.f3_kinds.specs.Calls.{least_count, no_match, function_has, function_rows, are_right, is_complete, intrinsic_has, intrinsic_parts}
use Rattle.f3_kinds.specs.Calls.{intrinsic_rows, constructor_has, keeps_type, constructor_parts, constructor_rows, is_constructed, result_has}
use Rattle.f3_kinds.specs.Typing.{called, sense_of, sense_has, sense_rows}
use Rattle.f3_meaning_whole.specs.Permitted.{Scope, Each, names_in}
use Rattle.f3_elaboration.specs.Nodes as n
use Rattle.f3_elaboration.specs.Nodes.{ExpressionNode, DesignatorNode}
use Rattle.f3_elaboration.specs.Declarations.{constant_of}
use Rattle.f3_elaboration.specs.Context.{Surroundings, base}
use Rattle.f3_elaboration.specs.Expressions as x
use Rattle.f3_elaboration.specs.Expressions.{meant, given_value, arguments_for, components_for}
use Rattle.f3_lawful_laws.specs.Nodes.{NodeValue}
use Rattle.f3_lawful_laws.specs.Agreement.{Agrees}
use Rattle.f3_lawful_laws.proofs.Facts.{not_nil, first, both}
use Rattle.f3_lawful_laws.proofs.Alike.{HasRoot, IsOf, AreGiven, IsBehind, AreParts, MayGiveAll}
use Rattle.f3_lawful_laws.proofs.Reaching.{object_typed}
use Rattle.f3_lawful_laws.proofs.Objects.{Stands, stands}
use Rattle.f3_lawful_laws.proofs.Calling.{function_typed, intrinsic_typed, intrinsic_counted, constructor_typed}
use Rattle.f3_lawful_laws.proofs.Given.{all_may, all_typed, behind_may, behind_typed, parts_named, all_parts_typed, value_may, arguments_may, components_may, arguments_pass, none_change}
use Rattle.f3_lawful_laws.proofs.Intrinsics.{intrinsic_may, IsNone, plain}

module _ (p : Program) (scope : Scope) (s : Surroundings) (agrees : Agrees p scope s) (of : Option DataType) where
  none_if : (b : Bool) (h : Has) → IsNone p scope s (Some h) → IsNone p scope s (if b then Some h else None)
  none_if true h e = e
  none_if false h e = tt

  constant_none : (u : Role) (r : Option Reach) → IsNone p scope s (reach_has Constant u r)
  constant_none u None = tt
  constant_none u (Some r) = none_if (r.is_fit && not r.offends && role_fits u r) _ tt

  seen_as : (e : ℕ) (d : DesignatorNode) (h : Has) → h.form ≡ Variable e → HasRoot p scope s d (Variable e) → HasRoot p scope s d h.form
  seen_as e d h f root = subst (HasRoot p scope s d) (sym f) root

  -- a variable or a part of one
  variable_is : (m : Name) (g : Option (List x.Given)) (qs : List x.Part) (b : Option (List Given)) (rs : List Part) (e : ℕ) (o : Object) → look_here s.context m.symbol ≡ One e
      → (s.context).nature e ≡ Some (variable o) → IsBehind p scope s g b → AreParts p scope s qs rs → object_rows s.context role.Expression o (m, b) rs ≡ []
      → IsOf p scope s (n.variable (x.variable_of s e o (m, g) qs)) (reach_has (Variable e) role.Expression (object_reach s.context role.Expression o (m, b) rs))
  variable_is m g qs b rs e o looked nature behind parts rows =
      let h : Stands p scope s agrees (Variable e) role.Expression e o (m, g) qs (m, b) rs =
      stands p scope s agrees (Variable e) role.Expression e o (m, g) qs (m, b) rs (agrees.known.variables m.symbol e o looked nature)
      (agrees.variables m.symbol e o looked nature) (behind_may p scope s g b behind) (behind_typed p scope s g b behind)
      (parts_named p scope s qs rs parts) rows in
      subst (IsOf p scope s (n.variable (x.variable_of s e o (m, g) qs))) (sym h.is)
      (h.known, h.locates, (h.of, seen_as e (x.variable_of s e o (m, g) qs) h.has h.form_is (record { symbol = m.symbol; object = o; looked = looked; nature = nature }, h.may)))

  values : (gs : List x.Given) → MayGiveAll p scope s gs → Each (NodeValue p scope) (map given_value gs)
  values [] h = tt
  values (g ∷ gs) h = (value_may p scope s g h.0, values gs h.1)

  counted : (gs : List x.Given) (ys : List Given) → AreGiven p scope s gs ys → length (map given_value gs) ≡ length ys
  counted [] [] h = refl
  counted [] (y ∷ ys) h = absurd h
  counted (g ∷ gs) [] h = absurd h
  counted (g ∷ gs) (y ∷ ys) h = ap suc (counted gs ys h.1)

  reference_is : (e : ℕ) (pure : Bool) (ds : List (ℕ × Dummy)) (o : Object) (m : Name) (gs : List x.Given) (ys : List Given)
      → (s.context).nature e ≡ Some (function pure ds o) → AreGiven p scope s gs ys → function_rows m ds ys ≡ []
      → IsOf p scope s (n.reference (s.procedure e) (arguments_for ds 0 gs)) (function_has ds o ys)
  reference_is e pure ds o m gs ys nature given rows =
      let known = agrees.known.natures e (function pure ds o) nature in
      let dummies = agrees.functions e pure ds o nature in
      plain p scope s (n.reference (s.procedure e) (arguments_for ds 0 gs)) (function_has ds o ys) (
        (
          arguments_may p scope s ds 0 gs (all_may p scope s gs ys given),
          arguments_pass p scope s ds (names_in p (s.procedure e)) 0 gs ys no_match known.0 dummies.0 given (first _ _ rows) (none_change p scope s ds 0 gs ys dummies.1 given),
        ),
        tt,
      )
      (function_typed m ds o ys known.1 (all_typed p scope s gs ys given) rows)
      (none_if (are_right ds ys && is_complete ds ys) (result_has o) tt)

  construction_is : (e : ℕ) (inside : Bool) (ks : List (ℕ × Component)) (f : Bool) (m : Name) (gs : List x.Given) (ys : List Given)
      → AreGiven p scope s gs ys → constructor_rows (s.context).phase m inside ks f ys ≡ []
      → IsOf p scope s (n.structure (s.type e) (components_for ks 0 gs)) (constructor_has (s.context).phase e inside ks f ys)
  construction_is e inside ks f m gs ys given rows =
      plain p scope s (n.structure (s.type e) (components_for ks 0 gs)) (constructor_has (s.context).phase e inside ks f ys) (components_may p scope s ks 0 gs (all_may p scope s gs ys given), tt)
      (constructor_typed (s.context).phase m e inside ks f ys (all_typed p scope s gs ys given) rows)
      (none_if (constructor_parts inside ks ys && is_constructed ks ys && keeps_type (s.context).phase f) _ tt)

  intrinsic_is : (r : Intrinsic) (m : Name) (gs : List x.Given) (ys : List Given) → AreGiven p scope s gs ys → intrinsic_rows m r ys ≡ []
      → IsOf p scope s (x.intrinsic_value (base s of) r (map given_value gs)) (intrinsic_has r ys)
  intrinsic_is r m gs ys given rows =
      let typed = all_typed p scope s gs ys given in
      plain p scope s (x.intrinsic_value (base s of) r (map given_value gs)) (intrinsic_has r ys)
      (intrinsic_may p scope s (base s of) r (map given_value gs) (values gs (all_may p scope s gs ys given))
      (ap (λ k. nat_lt k (least_count r)) (counted gs ys given) ∙ intrinsic_counted m r ys typed rows))
      (intrinsic_typed m r ys typed rows)
      (none_if (intrinsic_parts r ys && not (nat_lt (length ys) (least_count r))) _ tt)

  -- ---- by what the first name means

  abbrev Rows : Name → Option (List Given) → List Part → Meaning → List Break
  Rows m b rs meaning =
      sense_rows s.context role.Expression (m, b) rs (sense_of (s.context).unit role.Expression m meaning (called role.Expression rs b))

  abbrev IsMeant : Name → Option (List x.Given) → List x.Part → Option (List Given) → List Part → Meaning → Type 0
  IsMeant m g qs b rs meaning =
      IsOf p scope s (meant s of (m, g) qs meaning)
      (sense_has s.context role.Expression (m, b) rs (sense_of (s.context).unit role.Expression m meaning (called role.Expression rs b)))

  by_entity : (m : Name) (g : Option (List x.Given)) (qs : List x.Part) (b : Option (List Given)) (rs : List Part) (e : ℕ) (nature : Nature)
      → look_here s.context m.symbol ≡ One e → (s.context).nature e ≡ Some nature → IsBehind p scope s g b → AreParts p scope s qs rs
      → Rows m b rs (entity e nature) ≡ [] → IsMeant m g qs b rs (entity e nature)
  by_entity m g qs b rs e (variable o) looked is behind parts rows = variable_is m g qs b rs e o looked is behind parts rows
  by_entity m g qs b rs e (constant o) looked is behind parts rows =
      plain p scope s (n.literal (constant_of ((s.context).value e))) (reach_has Constant role.Expression (object_reach s.context role.Expression o (m, b) rs)) (tt, tt)
      (object_typed s.context agrees.known Constant role.Expression o (m, b) rs (agrees.known.natures e (constant o) is)
      (both _ _ (behind_typed p scope s g b behind) (all_parts_typed p scope s qs rs parts)) rows)
      (constant_none role.Expression _)
  by_entity m (Some gs) qs (Some ys) [] e (function pure ds o) looked is behind parts rows = reference_is e pure ds o m gs ys is behind rows
  by_entity m None qs (Some ys) [] e (function pure ds o) looked is behind parts rows = absurd behind
  by_entity m g qs None [] e (function pure ds o) looked is behind parts rows = not_nil rows
  by_entity m g qs b (r ∷ rs) e (function pure ds o) looked is behind parts rows = not_nil rows
  by_entity m (Some gs) qs (Some ys) [] e (derived home ks f) looked is behind parts rows =
      construction_is e (home == (s.context).unit) ks f m gs ys behind rows
  by_entity m None qs (Some ys) [] e (derived home ks f) looked is behind parts rows = absurd behind
  by_entity m g qs None [] e (derived home ks f) looked is behind parts rows = not_nil rows
  by_entity m g qs b (r ∷ rs) e (derived home ks f) looked is behind parts rows = not_nil rows
  by_entity m g qs b rs e (subroutine pure ds) looked is behind parts rows = not_nil rows

  by_intrinsic : (m : Name) (g : Option (List x.Given)) (qs : List x.Part) (b : Option (List Given)) (rs : List Part) (r : Intrinsic)
      → IsBehind p scope s g b → AreParts p scope s qs rs → Rows m b rs (intrinsic r) ≡ [] → IsMeant m g qs b rs (intrinsic r)
  by_intrinsic m g qs b rs i.MoveAlloc behind parts rows = not_nil rows
  by_intrinsic m (Some gs) qs (Some ys) [] r behind parts rows = intrinsic_is r m gs ys behind rows
  by_intrinsic m None qs (Some ys) [] r behind parts rows = absurd behind
  by_intrinsic m g qs None [] r behind parts rows = not_nil rows
  by_intrinsic m g qs b (y ∷ rs) r behind parts rows = not_nil rows

  pub meant_is : (m : Name) (g : Option (List x.Given)) (qs : List x.Part) (b : Option (List Given)) (rs : List Part)
      → IsBehind p scope s g b → AreParts p scope s qs rs → Rows m b rs (meaning_of s.context m.symbol) ≡ [] → IsMeant m g qs b rs (meaning_of s.context m.symbol)
  meant_is m g qs b rs behind parts rows = by_look (look_here s.context m.symbol) refl rows
    where
      by_nature : (e : ℕ) → look_here s.context m.symbol ≡ One e → (o : Option Nature) → (s.context).nature e ≡ o → Rows m b rs (entity_or e o) ≡ []
          → IsMeant m g qs b rs (entity_or e o)
      by_nature e looked None is rows = not_nil rows
      by_nature e looked (Some nature) is rows = by_entity m g qs b rs e nature looked is behind parts rows

      by_name : (o : Option Intrinsic) → Rows m b rs (map_or nothing intrinsic o) ≡ [] → IsMeant m g qs b rs (map_or nothing intrinsic o)
      by_name None rows = not_nil rows
      by_name (Some r) rows = by_intrinsic m g qs b rs r behind parts rows

      by_look : (l : Lookup) → look_here s.context m.symbol ≡ l → Rows m b rs (meaning_by s.context m.symbol l) ≡ []
          → IsMeant m g qs b rs (meaning_by s.context m.symbol l)
      by_look (One e) looked rows = by_nature e looked ((s.context).nature e) refl rows
      by_look Nothing looked rows = by_name ((s.context).intrinsic m.symbol) rows
      by_look Several looked rows = not_nil rows
