-- Designators of objects may stand where they break no rule.
use Rattle.std.proofs.Common.{◌≡◌, ℕ, Bool, true, false, ◌&&◌, ◌||◌, not, List, [], ◌∷◌, Option, Some, None, refl, sym, ap, ◌∙◌, if◌then◌else◌}
use Rattle.std.specs.Prelude.{◌==◌, nat_eq}
use mathlib.Core.Path.{subst}
use Rattle.f3_program.specs.declared.declarations.Base.TheVariants as base_is
use Rattle.f3_tree.specs.declared.expression.Name.{Name}
use Rattle.f3_program.specs.declared.program.Program.{Program}
use Rattle.f3_kinds.specs.declared.types.DataType.TheVariants.{Derived}
use Rattle.f3_kinds.specs.declared.types.Object.{Object}
use Rattle.f3_kinds.specs.declared.said.Reach.{Reach}
use Rattle.f3_kinds.specs.declared.said.Role.{Role}
use Rattle.f3_kinds.specs.declared.things.Component.{Component}
use Rattle.f3_kinds.specs.Things.{Context, component_of, map_or}
use Rattle.f3_kinds.specs.Rows.{is_known}
use Rattle.f3_kinds.specs.Designators.{Part, select, step_selected, step_selected_rows, step, along, along_rows, is_allocation, is_last}
use Rattle.f3_meaning_whole.specs.Act.{base_of, component_in, component_type}
use Rattle.f3_meaning_whole.specs.Permitted.{Scope, selectable, selectable_in, selectable_of}
use Rattle.f3_elaboration.specs.Nodes as n
use Rattle.f3_elaboration.specs.Nodes.{DesignatorNode}
use Rattle.f3_elaboration.specs.Context.{Surroundings, base}
use Rattle.f3_elaboration.specs.Expressions as x
use Rattle.f3_elaboration.specs.Expressions.{components_in, components_of, number_of, selection, subscripts, subscript}
use Rattle.f3_lawful_laws.specs.Nodes.{designated, NodeLocate, NodeTake, NodeSubscripts, NodeSubscript}
use Rattle.f3_lawful_laws.specs.Agreement.{Agrees, IsType}
use Rattle.f3_lawful_laws.proofs.Facts.{first, second}
use Rattle.f3_lawful_laws.proofs.Positions.{eq_swap, Standing, standing}
use Rattle.f3_lawful_laws.proofs.Designating.{Enters, enters, Selects, selects, component_known}
use Rattle.f3_lawful_laws.proofs.Alike.{MayGive, MayGiveAll, MayStandBehind, AreNamed}

module _ (p : Program) (scope : Scope) (s : Surroundings) where
  -- ---- selections

  subscript_takes : (g : x.Given) → MayGive p scope s g → NodeSubscript p scope (subscript g)
  subscript_takes (x.value k e) h = h
  subscript_takes (x.triplet a b c) h = h

  subscripts_take : (gs : List x.Given) → MayGiveAll p scope s gs → NodeSubscripts p scope (subscripts gs)
  subscripts_take [] h = tt
  subscripts_take (g ∷ gs) h = (subscript_takes g h.0, subscripts_take gs h.1)

  pub takes : (o : Object) (b : Option (List x.Given)) → MayStandBehind p scope s b → NodeTake p scope (selection o b)
  takes o None h = held o.is_allocatable
    where
      held : (b : Bool) → NodeTake p scope (if b then n.contents else n.whole)
      held true = tt
      held false = tt
  takes o (Some gs) h = subscripts_take gs h

  -- ---- one component

  free_there : (b : Bool) (home unit : ℕ) → (not b || (home == unit)) ≡ true → (if b then nat_eq unit home else true) ≡ true
  free_there true home unit e = eq_swap unit home ∙ e
  free_there false home unit e = refl

  module _ (agrees : Agrees p scope s) where
    -- what the program has of a component that is selected without a break
    pub record Picks (o : Object) (symbol : ℕ) (k : Component) : Type 0 where
      pub type : ℕ
      pub components : List (ℕ × Component)
      pub of : o.data_type ≡ Some (Derived type)
      pub in_type : components_of s.context (Some (Derived type)) ≡ components
      pub found : component_of components symbol ≡ Some k
      pub known : is_known (k.object).data_type ≡ true
      pub free : selectable p scope.unit (base_is.Derived (s.type type)) (number_of components symbol) ≡ true
      pub part : component_type p.types.items (base_is.Derived (s.type type)) (number_of components symbol) ≡ base s (k.object).data_type

    picks : (o : Object) (name : Name) (k : Component) → Selects s.context o name k → Picks o name.symbol k
    picks o name k h =
        let t : IsType p s h.type h.home h.components = agrees.types h.type h.home h.components h.finalizable h.nature in
        let at : Standing s (t.type.components).items h.components name.symbol k =
        standing s (t.type.components).items h.components name.symbol k t.components h.component in
        let number : number_of h.components name.symbol ≡ at.number = ap (λ o. map_or 0 (λ k. k) o) at.place in
        record {
          type = h.type;
          components = h.components;
          of = h.of;
          in_type = ap components_in h.nature;
          found = h.component;
          known = component_known h.components name.symbol k (agrees.known.natures h.type _ h.nature) h.component;
          free =
              ap (λ m. selectable p scope.unit (base_is.Derived (s.type h.type)) m) number
              ∙ ap (λ y. selectable_in scope.unit y at.number) t.there
              ∙ ap (λ y. selectable_of scope.unit t.type.home y) at.there
              ∙ ap (λ u. if at.component.is_private then nat_eq scope.unit u else true) t.at_home
              ∙ ap (λ b. if b then nat_eq scope.unit h.home else true) at.private
              ∙ free_there k.is_private h.home scope.unit (subst (λ u. (not k.is_private || (h.home == u)) ≡ true) agrees.unit h.free);
          part =
              ap (λ m. component_type p.types.items (base_is.Derived (s.type h.type)) m) number
              ∙ ap (λ y. base_of (component_in y at.number)) t.there
              ∙ ap base_of at.there
              ∙ at.of;
        }

    -- ---- the parts from left to right

    -- what is reached behind parts without a break, and the designator
    pub record Arrives (u : Role) (qs : List x.Part) (rs : List Part) (r : Reach) (d : DesignatorNode) (o : Object) : Type 0 where
      pub reach : Reach
      pub is : along s.context u rs (Some r) ≡ Some reach
      pub fit : reach.is_fit ≡ true
      pub known : is_known (reach.object).data_type ≡ true
      pub locates : NodeLocate p scope (x.along s.context d o qs)
      pub of : (designated p scope (x.along s.context d o qs)).of ≡ base s (reach.object).data_type
      pub may : (designated p scope (x.along s.context d o qs)).may_define ≡ (designated p scope d).may_define

    -- one component more
    onward : (d : DesignatorNode) (o : Object) (q : x.Part) (qs : List x.Part) (k : Component) (h : Picks o (q.0).symbol k)
        → x.along s.context (n.component d (number_of (Picks.components h) (q.0).symbol) (selection k.object q.1)) k.object qs
        ≡ x.along s.context d o (q ∷ qs)
    onward d o q qs k h =
        let next : List (ℕ × Component) → Component → DesignatorNode =
        λ ks j. x.along s.context (n.component d (number_of ks (q.0).symbol) (selection j.object q.1)) j.object qs in
        sym (
        ap (λ t. map_or d (next (components_of s.context t)) (component_of (components_of s.context t) (q.0).symbol)) h.of
        ∙ ap (λ ks. map_or d (next ks) (component_of ks (q.0).symbol)) h.in_type
        ∙ ap (λ j. map_or d (next h.components) j) h.found
        )

    pub walk : (u : Role) (qs : List x.Part) (rs : List Part) → AreNamed p scope s qs rs → (r : Reach) (d : DesignatorNode) (o : Object) → r.object ≡ o
        → r.is_fit ≡ true → is_known o.data_type ≡ true → NodeLocate p scope d → (designated p scope d).of ≡ base s o.data_type
        → along_rows s.context u rs (Some r) ≡ [] → Arrives u qs rs r d o
    walk u [] [] h r d o same fit known locates of e = record {
      reach = r;
      is = refl;
      fit = fit;
      known = ap (λ (o : Object). is_known o.data_type) same ∙ known;
      locates = locates;
      of = of ∙ ap (λ (o : Object). base s o.data_type) (sym same);
      may = refl;
    }
    walk u [] (y ∷ rs) h r d o same fit known locates of e = absurd h
    walk u (q ∷ qs) [] h r d o same fit known locates of e = absurd h
    walk u (q ∷ qs) (y ∷ rs) h r d o same fit known locates of e =
        let c : Context = s.context in
        let b : Bool = is_allocation u && is_last rs in
        let rows : step_selected_rows b y (select c o y.0) ≡ [] = ap (λ o. step_selected_rows b y (select c o y.0)) (sym same) ∙ first _ _ e in
        let found = selects c b o y known rows in
        let k : Component = found.0 in
        let pick : Picks o (q.0).symbol k = subst (λ (n : Name). Picks o n.symbol k) (sym h.0) (picks o y.0 k found.2) in
        let inside : Enters b r k.object y.1 = enters b r k.object y fit h.2 (subst (λ z. step_selected_rows b y z ≡ []) found.1 rows) in
        let stepped : step c b y (Some r) ≡ Some inside.reach =
        ap (λ o. step_selected b r y.1 (select c o y.0)) same ∙ ap (step_selected b r y.1) found.1 ∙ inside.is in
        let m : ℕ = number_of pick.components (q.0).symbol in
        let typed : (designated p scope d).of ≡ base_is.Derived (s.type pick.type) = of ∙ ap (base s) pick.of in
        let e' : DesignatorNode = n.component d m (selection k.object q.1) in
        let rest : Arrives u qs rs inside.reach e' k.object =
        walk u qs rs h.3 inside.reach e' k.object inside.object inside.fit pick.known
        (locates, ap (λ t. selectable p scope.unit t m) typed ∙ pick.free, takes k.object q.1 h.1)
        (ap (λ t. component_type p.types.items t m) typed ∙ pick.part)
        (subst (λ z. along_rows c u rs z ≡ []) stepped (second (step_selected_rows b y (select c r.object y.0)) _ e)) in
        let path : x.along c e' k.object qs ≡ x.along c d o (q ∷ qs) = onward d o q qs k pick in
        record {
          reach = rest.reach;
          is = ap (along c u rs) stepped ∙ rest.is;
          fit = rest.fit;
          known = rest.known;
          locates = subst (NodeLocate p scope) path rest.locates;
          of = subst (λ (d : DesignatorNode). (designated p scope d).of ≡ base s ((rest.reach).object).data_type) path rest.of;
          may = subst (λ (z : DesignatorNode). (designated p scope z).may_define ≡ (designated p scope d).may_define) path rest.may;
        }
