-- What breaks no rule has a type: all parts of a designator.
use Rattle.std.proofs.Common.{◌≡◌, Bool, true, false, ◌&&◌, not, List, [], ◌∷◌, Some, refl, sym, ap, ◌∙◌, if◌then◌else◌}
use mathlib.Core.Path.{subst}
use Rattle.f3_rules.specs.declared.rule.Rule.TheVariants.{T7, T9}
use Rattle.f3_tree.specs.declared.expression.Name.{Name}
use Rattle.f3_kinds.specs.declared.types.Object.{Object}
use Rattle.f3_kinds.specs.declared.said.Form.{Form}
use Rattle.f3_kinds.specs.declared.said.Has.{Has}
use Rattle.f3_kinds.specs.declared.said.Reach.{Reach}
use Rattle.f3_kinds.specs.declared.said.Role.{Role}
use Rattle.f3_kinds.specs.declared.things.Component.{Component}
use Rattle.f3_kinds.specs.Things.{Context}
use Rattle.f3_kinds.specs.Rows.{has_type, is_known, unless, at_place, at_name}
use Rattle.f3_kinds.specs.Designators.{Part, select, step_selected, step_selected_rows, step, along, along_rows, is_allocation, is_last, start, enter_rows}
use Rattle.f3_kinds.specs.Designators.{parts_typed, role_fits, reach_has, reach_rows, object_reach, object_rows}
use Rattle.f3_lawful_laws.specs.Agreement.{Knows}
use Rattle.f3_lawful_laws.proofs.Facts.{not_nil, first, second, holds, both, left, right, when_true}
use Rattle.f3_lawful_laws.proofs.Designating.{Enters, enters, Selects, selects, component_known}

-- what is reached behind all parts
pub record Ends (c : Context) (u : Role) (ps : List Part) (r : Reach) : Type 0 where
  pub reach : Reach
  pub is : along c u ps (Some r) ≡ Some reach
  pub fit : reach.is_fit ≡ true
  pub known : is_known (reach.object).data_type ≡ true

pub ends : (c : Context) → Knows c → (u : Role) (ps : List Part) (r : Reach) → r.is_fit ≡ true → is_known (r.object).data_type ≡ true
    → parts_typed ps ≡ true → along_rows c u ps (Some r) ≡ [] → Ends c u ps r
ends c knows u [] r fit known t e = record { reach = r; is = refl; fit = fit; known = known }
ends c knows u (y ∷ ps) r fit known t e =
    let b : Bool = is_allocation u && is_last ps in
    let found = selects c b r.object y known (first _ _ e) in
    let k : Component = found.0 in
    let inside : Enters b r k.object y.1 = enters b r k.object y fit (left _ _ t) (subst (λ z. step_selected_rows b y z ≡ []) found.1 (first _ _ e)) in
    let stepped : step c b y (Some r) ≡ Some inside.reach = ap (step_selected b r y.1) found.1 ∙ inside.is in
    let h : Selects c r.object y.0 k = found.2 in
    let rest : Ends c u ps inside.reach =
    ends c knows u ps inside.reach inside.fit
    (ap (λ (o : Object). is_known o.data_type) inside.object ∙ component_known h.components (y.0).symbol k (knows.natures h.type _ h.nature) h.component)
    (right _ _ t) (subst (λ z. along_rows c u ps z ≡ []) stepped (second (step_selected_rows b y (select c r.object y.0)) _ e)) in
    record { reach = rest.reach; is = ap (along c u ps) stepped ∙ rest.is; fit = rest.fit; known = rest.known }

-- ---- what the whole has

pub record Has_all (form : Form) (u : Role) (r : Reach) : Type 0 where
  pub has : Has
  pub is : reach_has form u (Some r) ≡ Some has
  pub form_is : has.form ≡ form
  pub type_is : has.data_type ≡ (r.object).data_type

pub role_holds : (u : Role) (n : Name) (r : Reach) → r.is_fit ≡ true → reach_rows u n (Some r) ≡ [] → (not r.offends && role_fits u r) ≡ true
role_holds u n r fit e = go r.offends (sym (when_true r.is_fit _ _ fit) ∙ e)
  where
    go : (b : Bool) → (if b then at_place 6 T7 n.place ∷ [] else unless (role_fits u r) (at_name 6 T9 n)) ≡ [] → (not b && role_fits u r) ≡ true
    go true e = not_nil e
    go false e = holds _ _ e

pub has_all : (form : Form) (u : Role) (n : Name) (r : Reach) → r.is_fit ≡ true → reach_rows u n (Some r) ≡ [] → Has_all form u r
has_all form u n r fit e = let held = role_holds u n r fit e in record {
  has = record { data_type = (r.object).data_type; rank = r.rank; is_allocatable = r.is_allocatable; form = form };
  is = when_true (r.is_fit && not r.offends && role_fits u r) _ _ (both _ _ (both r.is_fit _ fit (left _ _ held)) (right _ _ held));
  form_is = refl;
  type_is = refl;
}

-- a designator of an object that breaks no rule has a type
pub object_typed : (c : Context) → Knows c → (form : Form) (u : Role) (o : Object) (y : Part) (ps : List Part) → is_known o.data_type ≡ true
    → parts_typed (y ∷ ps) ≡ true → object_rows c u o y ps ≡ [] → has_type (reach_has form u (object_reach c u o y ps)) ≡ true
object_typed c knows form u o y ps known t e =
    let b : Bool = is_allocation u && is_last ps in
    let inside : Enters b (start o) o y.1 = enters b (start o) o y refl (left _ _ t) (first _ _ e) in
    let behind = second (enter_rows b o y) _ e in
    let rest : Ends c u ps inside.reach =
    ends c knows u ps inside.reach inside.fit (ap (λ (o : Object). is_known o.data_type) inside.object ∙ known) (right _ _ t)
    (subst (λ z. along_rows c u ps z ≡ []) inside.is (first _ _ behind)) in
    let reached : object_reach c u o y ps ≡ Some rest.reach = ap (along c u ps) inside.is ∙ rest.is in
    let all : Has_all form u rest.reach = has_all form u y.0 rest.reach rest.fit (subst (λ z. reach_rows u y.0 z ≡ []) reached (second (along_rows c u ps _) _ behind)) in
    ap (λ z. has_type (reach_has form u z)) reached ∙ ap has_type all.is ∙ ap is_known all.type_is ∙ rest.known
