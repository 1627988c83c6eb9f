-- Designators of objects are of the kinds that are said.
use Rattle.std.proofs.Common.{◌≡◌, ℕ, Bool, true, false, ◌&&◌, ◌||◌, not, List, [], ◌∷◌, ◌++◌, Option, Some, None, refl, sym, ap, ◌∙◌, if◌then◌else◌, nat_eq}
use Rattle.std.specs.Prelude.{◌==◌, slice_get}
use mathlib.Core.Path.{subst}
use Rattle.f3_program.specs.declared.declarations.Base.TheVariants as base_is
use Rattle.f3_program.specs.declared.declarations.Component as program
use Rattle.f3_program.specs.declared.declarations.Declared.{Declared}
use Rattle.f3_program.specs.declared.declarations.Kind.{Kind}
use Rattle.f3_program.specs.declared.program.Program.{Program}
use Rattle.f3_tree.specs.declared.expression.Name.{Name}
use Rattle.f3_kinds.specs.declared.types.DataType.TheVariants.{Derived}
use Rattle.f3_kinds.specs.declared.types.Object.{Object}
use Rattle.f3_kinds.specs.declared.said.Form.{Form}
use Rattle.f3_kinds.specs.declared.said.Has.{Has}
use Rattle.f3_kinds.specs.declared.said.Given.{Given}
use Rattle.f3_kinds.specs.declared.said.Reach.{Reach}
use Rattle.f3_kinds.specs.declared.said.Role.TheVariants as role
use Rattle.f3_kinds.specs.declared.things.Component.{Component}
use Rattle.f3_kinds.specs.Things.{component_of, map_or}
use Rattle.f3_kinds.specs.Rows.{is_known}
use Rattle.f3_kinds.specs.Designators.{Part, select, step_selected, step_selected_rows, step, along, along_rows, start, enter_rows, are_fit, count_is_right, rank_left}
use Rattle.f3_kinds.specs.Designators.{reach_has, reach_rows, object_reach, object_rows, role_fits, enter}
use Rattle.f3_meaning_whole.specs.Act as Act
use Rattle.f3_meaning_whole.specs.Formed.{of_kind, found, component_kind, kind_of_name}
use Rattle.f3_elaboration.specs.Nodes as n
use Rattle.f3_elaboration.specs.Nodes.{DesignatorNode}
use Rattle.f3_elaboration.specs.Context.{Surroundings, base}
use Rattle.f3_elaboration.specs.Expressions as x
use Rattle.f3_elaboration.specs.Expressions.{components_in, components_of, number_of, selection, is_whole_allocatable}
use Rattle.f3_lawful_laws.proofs.Facts.{no, nothing, same, first, second, left, right, negated_back, both, when_true}
use Rattle.f3_lawful_laws.proofs.Designating.{Enters, enters, Selects, selects, component_known}
use Rattle.f3_lawful_laws.proofs.Reaching.{role_holds}
use Rattle.f3_formed_laws.specs.Nodes.{object_kind, taken, taken_of_each}
use Rattle.f3_formed_laws.specs.Agreement.{kind_of, HasComponents, AgreesInKinds}
use Rattle.f3_formed_laws.proofs.Facts.{neither, denied}
use Rattle.f3_formed_laws.proofs.Alike.{IsBehind, AreParts}
use Rattle.f3_formed_laws.proofs.Scalars.{behind_typed}
use Rattle.f3_formed_laws.proofs.Components.{Standing, standing}
use Rattle.f3_formed_laws.proofs.Selecting.{taken_is, each_is, held_is}

-- what is entered has as many subscripts as it has to have
counted : (b c : Bool) (r : Reach) (o : Option Reach) → b ≡ true → (if b && not c then None else o) ≡ Some r → c ≡ true
counted true true r o e h = refl
counted true false r o e h = nothing h
counted false c r o e h = no (sym e)

pub entered_count : (bounds : Bool) (r : Reach) (o : Object) (b : Option (List Given)) (h : Enters bounds r o b) → (are_fit b ≡ true) × (count_is_right bounds o b ≡ true)
entered_count bounds r o b h =
    let fitting : are_fit b ≡ true = right r.is_fit _ (ap (λ (z : Reach). z.is_fit) (sym h.reach_is) ∙ h.fit) in
    (fitting, counted (are_fit b) (count_is_right bounds o b) h.reach _ fitting h.is)

module _ (p : Program) (vs : List Declared) (ns : List Kind) (s : Surroundings) (agrees : AgreesInKinds p vs ns s) where
  -- what the program has of a component that is selected without a break
  pub record Picks (o : Object) (symbol : ℕ) (k : Component) : Type 0 where
    pub type : ℕ
    pub components : List (ℕ × Component)
    pub of : o.data_type ≡ Some (Derived type)
    pub in_type : components_of s.context (Some (Derived type)) ≡ components
    pub found_in : component_of components symbol ≡ Some k
    pub known : is_known (k.object).data_type ≡ true
    pub component : program.Component
    pub there : Act.component_of p.types.items (base_is.Derived (s.type type)) (number_of components symbol) ≡ Some component
    pub kind : (component.declared).kind ≡ kind_of s k.object

  picks : (o : Object) (name : Name) (k : Component) → Selects s.context o name k → Picks o name.symbol k
  picks o name k h =
      let t : HasComponents p s h.type h.components = agrees.types h.type h.home h.components h.finalizable h.nature in
      let at : Standing s (t.type.components).items h.components name.symbol k =
      standing s (t.type.components).items h.components name.symbol k t.components h.component in
      let number : number_of h.components name.symbol ≡ at.number = ap (λ o. map_or 0 (λ k. k) o) at.place in
      record {
        type = h.type;
        components = h.components;
        of = h.of;
        in_type = ap components_in h.nature;
        found_in = h.component;
        known = component_known h.components name.symbol k (agrees.known.natures h.type _ h.nature) h.component;
        component = at.component;
        there = ap (λ y. Act.component_in y (number_of h.components name.symbol)) t.there ∙ ap (slice_get (t.type.components).items) number ∙ at.there;
        kind = at.kind;
      }

  -- one component more
  onward : (d : DesignatorNode) (o : Object) (q : x.Part) (qs : List x.Part) (k : Component) (h : Picks o (q.0).symbol k)
      → x.along s.context (n.component d (number_of (Picks.components h) (q.0).symbol) (selection k.object q.1)) k.object qs
      ≡ x.along s.context d o (q ∷ qs)
  onward d o q qs k h =
      let next : List (ℕ × Component) → Component → DesignatorNode =
      λ ks j. x.along s.context (n.component d (number_of ks (q.0).symbol) (selection j.object q.1)) j.object qs in
      sym (
      ap (λ t. map_or d (next (components_of s.context t)) (component_of (components_of s.context t) (q.0).symbol)) h.of
      ∙ ap (λ ks. map_or d (next ks) (component_of ks (q.0).symbol)) h.in_type
      ∙ ap (λ j. map_or d (next h.components) j) h.found_in
      )

  -- the rank that is reached, and the kind of what is there
  component_is : (d : DesignatorNode) (o : Object) (rank : ℕ) (q : x.Part) (k : Component) (h : Picks o (q.0).symbol k) (b : Option (List Given))
      → object_kind p vs ns d ≡ Some (of_kind (base s o.data_type) rank) → IsBehind p vs ns s q.1 b → are_fit b ≡ true → count_is_right false k.object b ≡ true
      → (not (rank == 0) && ((k.object).is_allocatable || not (rank_left false k.object b == 0))) ≡ false
      → object_kind p vs ns (n.component d (number_of (Picks.components h) (q.0).symbol) (selection k.object q.1))
      ≡ Some (of_kind (base s (k.object).data_type) (if rank == 0 then rank_left false k.object b else rank))
  component_is d o rank q k h b kind behind fit count free =
      let how : Kind → Option Kind = λ c. taken p vs ns (selection k.object q.1) c in
      let each : Kind → Kind → Option Kind = λ a c. taken_of_each p vs ns (selection k.object q.1) a c in
      let m : ℕ = number_of h.components (q.0).symbol in
      ap (λ z. component_kind p vs ns z m how each) (kind ∙ ap (λ t. Some (of_kind (base s t) rank)) h.of)
      ∙ ap (λ z. found z (λ (c : program.Component). if nat_eq rank 0 then how c.declared.kind else each (of_kind (base s (Some (Derived h.type))) rank) c.declared.kind)) h.there
      ∙ ap (λ z. if nat_eq rank 0 then how z else each (of_kind (base s (Some (Derived h.type))) rank) z) h.kind
      ∙ go (nat_eq rank 0) free
    where
      go : (z : Bool) → (not z && ((k.object).is_allocatable || not (rank_left false k.object b == 0))) ≡ false
          → (if z then taken p vs ns (selection k.object q.1) (kind_of s k.object)
          else taken_of_each p vs ns (selection k.object q.1) (of_kind (base s (Some (Derived h.type))) rank) (kind_of s k.object))
          ≡ Some (of_kind (base s (k.object).data_type) (if z then rank_left false k.object b else rank))
      go true free = taken_is p vs ns s k.object q.1 b behind fit count
      go false free =
          each_is p vs ns s k.object q.1 b (of_kind (base s (Some (Derived h.type))) rank) behind fit count
          (neither (k.object).is_allocatable (not (rank_left false k.object b == 0)) free).0
          (denied (rank_left false k.object b == 0) (neither (k.object).is_allocatable (not (rank_left false k.object b == 0)) free).1)

  -- what is reached behind parts without a break, and the designator
  pub record Arrives (qs : List x.Part) (rs : List Part) (r : Reach) (d : DesignatorNode) (o : Object) : Type 0 where
    pub reach : Reach
    pub is : along s.context role.Expression rs (Some r) ≡ Some reach
    pub fit : reach.is_fit ≡ true
    pub known : is_known (reach.object).data_type ≡ true
    pub kind : reach.offends ≡ false → object_kind p vs ns (x.along s.context d o qs) ≡ Some (of_kind (base s (reach.object).data_type) reach.rank)
    pub held : reach.is_allocatable ≡ is_whole_allocatable (x.along s.context d o qs)

  -- one part further
  further : (q : x.Part) (qs : List x.Part) (y : Part) (rs : List Part) → IsBehind p vs ns s q.1 y.1 → (r : Reach) (d : DesignatorNode) (o : Object) (k : Component)
      (pick : Picks o (q.0).symbol k) (inside : Enters false r k.object y.1)
      → (r.offends ≡ false → object_kind p vs ns d ≡ Some (of_kind (base s o.data_type) r.rank)) → step s.context false y (Some r) ≡ Some inside.reach
      → ((w : DesignatorNode) → (inside.reach.offends ≡ false → object_kind p vs ns w ≡ Some (of_kind (base s (k.object).data_type) inside.reach.rank))
      → inside.reach.is_allocatable ≡ is_whole_allocatable w → along_rows s.context role.Expression rs (Some inside.reach) ≡ [] → Arrives qs rs inside.reach w k.object)
      → along_rows s.context role.Expression rs (Some inside.reach) ≡ [] → Arrives (q ∷ qs) (y ∷ rs) r d o
  further q qs y rs behind r d o k pick inside kind stepped go rows =
      arrived (go (n.component d (number_of pick.components (q.0).symbol) (selection k.object q.1)) next_kind
      (ap (λ (z : Reach). z.is_allocatable) inside.reach_is ∙ held_is p vs ns s k.object q.1 y.1 behind) rows)
    where
      next_kind : inside.reach.offends ≡ false
          → object_kind p vs ns (n.component d (number_of pick.components (q.0).symbol) (selection k.object q.1)) ≡ Some (of_kind (base s (k.object).data_type) inside.reach.rank)
      next_kind free =
          let counts = entered_count false r k.object y.1 inside in
          let free_both = neither r.offends _ (ap (λ (z : Reach). z.offends) (sym inside.reach_is) ∙ free) in
          component_is d o r.rank q k pick y.1 (kind free_both.0) behind counts.0 counts.1 free_both.1
          ∙ ap (λ (z : Reach). Some (of_kind (base s (k.object).data_type) z.rank)) (sym inside.reach_is)

      arrived : Arrives qs rs inside.reach (n.component d (number_of pick.components (q.0).symbol) (selection k.object q.1)) k.object → Arrives (q ∷ qs) (y ∷ rs) r d o
      arrived rest =
          let path = onward d o q qs k pick in
          record {
            reach = rest.reach;
            is = ap (along s.context role.Expression rs) stepped ∙ rest.is;
            fit = rest.fit;
            known = rest.known;
            kind = λ free. subst (λ (d : DesignatorNode). object_kind p vs ns d ≡ Some (of_kind (base s ((rest.reach).object).data_type) (rest.reach).rank)) path (rest.kind free);
            held = subst (λ (d : DesignatorNode). (rest.reach).is_allocatable ≡ is_whole_allocatable d) path rest.held;
          }

  pub walk : (qs : List x.Part) (rs : List Part) → AreParts p vs ns s qs rs → (r : Reach) (d : DesignatorNode) (o : Object) → r.object ≡ o
      → r.is_fit ≡ true → is_known o.data_type ≡ true → (r.offends ≡ false → object_kind p vs ns d ≡ Some (of_kind (base s o.data_type) r.rank))
      → r.is_allocatable ≡ is_whole_allocatable d → along_rows s.context role.Expression rs (Some r) ≡ [] → Arrives qs rs r d o
  walk [] [] h r d o same fit known kind held e = record {
    reach = r;
    is = refl;
    fit = fit;
    known = ap (λ (o : Object). is_known o.data_type) same ∙ known;
    kind = λ free. kind free ∙ ap (λ (o : Object). Some (of_kind (base s o.data_type) r.rank)) (sym same);
    held = held;
  }
  walk [] (y ∷ rs) h r d o same fit known kind held e = absurd h
  walk (q ∷ qs) [] h r d o same fit known kind held e = absurd h
  walk (q ∷ qs) (y ∷ rs) h r d o same fit known kind held e =
      let rows : step_selected_rows false y (select s.context o y.0) ≡ [] = ap (λ o. step_selected_rows false y (select s.context o y.0)) (sym same) ∙ first _ _ e in
      let found = selects s.context false o y known rows in
      let pick : Picks o (q.0).symbol found.0 = subst (λ (n : Name). Picks o n.symbol found.0) (sym h.0) (picks o y.0 found.0 found.2) in
      let inside : Enters false r (found.0).object y.1 =
      enters false r (found.0).object y fit (behind_typed p vs ns s q.1 y.1 h.1) (subst (λ z. step_selected_rows false y z ≡ []) found.1 rows) in
      let stepped : step s.context false y (Some r) ≡ Some inside.reach =
      ap (λ o. step_selected false r y.1 (select s.context o y.0)) same ∙ ap (step_selected false r y.1) found.1 ∙ inside.is in
      further q qs y rs h.1 r d o found.0 pick inside kind stepped
      (λ w z t u. walk qs rs h.2 inside.reach w (found.0).object inside.object inside.fit pick.known z t u)
      (subst (λ z. along_rows s.context role.Expression rs z ≡ []) stepped (second (step_selected_rows false y (select s.context r.object y.0)) _ e))

  -- ---- the whole designator

  pub record Stands (form : Form) (e : ℕ) (o : Object) (q : x.Part) (qs : List x.Part) (y : Part) (rs : List Part) : Type 0 where
    pub has : Has
    pub is : reach_has form role.Expression (object_reach s.context role.Expression o y rs) ≡ Some has
    pub form_is : has.form ≡ form
    pub known : is_known has.data_type ≡ true
    pub kind : object_kind p vs ns (x.variable_of s e o q qs) ≡ Some (of_kind (base s has.data_type) has.rank)
    pub held : has.is_allocatable ≡ is_whole_allocatable (x.variable_of s e o q qs)

  -- by what is reached
  reached_is : (form : Form) (e : ℕ) (o : Object) (q : x.Part) (qs : List x.Part) (y : Part) (rs : List Part) (r : Reach)
      → object_reach s.context role.Expression o y rs ≡ Some r → r.is_fit ≡ true → is_known (r.object).data_type ≡ true → reach_rows role.Expression y.0 (Some r) ≡ []
      → (r.offends ≡ false → object_kind p vs ns (x.variable_of s e o q qs) ≡ Some (of_kind (base s (r.object).data_type) r.rank))
      → r.is_allocatable ≡ is_whole_allocatable (x.variable_of s e o q qs) → Stands form e o q qs y rs
  reached_is form e o q qs y rs r reached fit known rows kind held =
      let holds = role_holds role.Expression y.0 r fit rows in
      record {
        has = record { data_type = (r.object).data_type; rank = r.rank; is_allocatable = r.is_allocatable; form = form };
        is =
            ap (λ z. reach_has form role.Expression z) reached
            ∙ when_true (r.is_fit && not r.offends && role_fits role.Expression r) _ None (both _ _ (both r.is_fit _ fit (left _ _ holds)) (right (not r.offends) _ holds));
        form_is = refl;
        known = known;
        kind = kind (negated_back r.offends (left _ _ holds));
        held = held;
      }

  -- by its first part
  first_is : (form : Form) (e : ℕ) (o : Object) (q : x.Part) (qs : List x.Part) (y : Part) (rs : List Part) → is_known o.data_type ≡ true
      → kind_of_name p vs ns (s.object e) ≡ Some (kind_of s o) → IsBehind p vs ns s q.1 y.1 → AreParts p vs ns s qs rs → (inside : Enters false (start o) o y.1)
      → along_rows s.context role.Expression rs (Some inside.reach) ≡ [] → Arrives qs rs inside.reach (n.name (s.object e) (selection o q.1)) o
  first_is form e o q qs y rs known of behind parts inside rows =
      let counts = entered_count false (start o) o y.1 inside in
      walk qs rs parts inside.reach (n.name (s.object e) (selection o q.1)) o inside.object inside.fit known
      (λ free. ap (λ z. found z (λ k. taken p vs ns (selection o q.1) k)) of ∙ taken_is p vs ns s o q.1 y.1 behind counts.0 counts.1
      ∙ ap (λ (z : Reach). Some (of_kind (base s o.data_type) z.rank)) (sym inside.reach_is))
      (ap (λ (z : Reach). z.is_allocatable) inside.reach_is ∙ held_is p vs ns s o q.1 y.1 behind) rows

  pub stands : (form : Form) (e : ℕ) (o : Object) (q : x.Part) (qs : List x.Part) (y : Part) (rs : List Part) → is_known o.data_type ≡ true
      → kind_of_name p vs ns (s.object e) ≡ Some (kind_of s o) → IsBehind p vs ns s q.1 y.1 → AreParts p vs ns s qs rs
      → object_rows s.context role.Expression o y rs ≡ [] → Stands form e o q qs y rs
  stands form e o q qs y rs known of behind parts rows =
      entering (enters false (start o) o y refl (behind_typed p vs ns s q.1 y.1 behind) (first _ _ rows)) (second (enter_rows false o y) _ rows)
    where
      arriving : (inside : Enters false (start o) o y.1) → Arrives qs rs inside.reach (n.name (s.object e) (selection o q.1)) o
          → reach_rows role.Expression y.0 (along s.context role.Expression rs (enter false (start o) o y.1)) ≡ [] → Stands form e o q qs y rs
      arriving inside rest last =
          let reached : along s.context role.Expression rs (enter false (start o) o y.1) ≡ Some rest.reach = ap (along s.context role.Expression rs) inside.is ∙ rest.is in
          reached_is form e o q qs y rs rest.reach reached rest.fit rest.known (subst (λ z. reach_rows role.Expression y.0 z ≡ []) reached last) rest.kind rest.held

      entering : (inside : Enters false (start o) o y.1)
          → along_rows s.context role.Expression rs (enter false (start o) o y.1) ++ reach_rows role.Expression y.0 (object_reach s.context role.Expression o y rs) ≡ []
          → Stands form e o q qs y rs
      entering inside others =
          arriving inside
          (first_is form e o q qs y rs known of behind parts inside (subst (λ z. along_rows s.context role.Expression rs z ≡ []) inside.is (first _ _ others)))
          (second (along_rows s.context role.Expression rs (enter false (start o) o y.1)) _ others)
