-- A designator of a variable that breaks no rule.
use Rattle.std.proofs.Common.{◌≡◌, ℕ, Bool, true, ◌&&◌, List, [], Some, refl, sym, ap, ◌∙◌}
use mathlib.Core.Path.{subst}
use Rattle.f3_program.specs.declared.program.Program.{Program}
use Rattle.f3_kinds.specs.declared.types.Object.{Object}
use Rattle.f3_kinds.specs.declared.said.Form.{Form}
use Rattle.f3_kinds.specs.declared.said.Has.{Has}
use Rattle.f3_kinds.specs.declared.said.Role.{Role}
use Rattle.f3_kinds.specs.Things.{Context}
use Rattle.f3_kinds.specs.Rows.{is_known}
use Rattle.f3_kinds.specs.Designators.{Part, along, along_rows, is_allocation, is_last, are_typed, start, enter_rows}
use Rattle.f3_kinds.specs.Designators.{reach_has, reach_rows, object_reach, object_rows}
use Rattle.f3_meaning_whole.specs.Permitted.{Scope, name_of}
use Rattle.f3_elaboration.specs.Nodes as n
use Rattle.f3_elaboration.specs.Nodes.{DesignatorNode}
use Rattle.f3_elaboration.specs.Context.{Surroundings, base}
use Rattle.f3_elaboration.specs.Expressions as x
use Rattle.f3_elaboration.specs.Expressions.{selection}
use Rattle.f3_lawful_laws.specs.Nodes.{designated, NodeLocate}
use Rattle.f3_lawful_laws.specs.Agreement.{Agrees}
use Rattle.f3_lawful_laws.proofs.Facts.{first, second}
use Rattle.f3_lawful_laws.proofs.Designating.{Enters, enters}
use Rattle.f3_lawful_laws.proofs.Alike.{MayStandBehind, AreNamed}
use Rattle.f3_lawful_laws.proofs.Reaching.{Has_all, has_all}
use Rattle.f3_lawful_laws.proofs.Walking.{takes, Arrives, walk}

module _ (p : Program) (scope : Scope) (s : Surroundings) (agrees : Agrees p scope s) where
  pub record Stands (form : Form) (u : Role) (e : ℕ) (o : Object) (q : x.Part) (qs : List x.Part) (y : Part) (rs : List Part) : Type 0 where
    pub has : Has
    pub is : reach_has form u (object_reach s.context u o y rs) ≡ Some has
    pub form_is : has.form ≡ form
    pub known : is_known has.data_type ≡ true
    pub locates : NodeLocate p scope (x.variable_of s e o q qs)
    pub of : (designated p scope (x.variable_of s e o q qs)).of ≡ base s has.data_type
    pub may : (designated p scope (x.variable_of s e o q qs)).may_define ≡ (name_of p scope (s.object e)).may_define

  pub stands : (form : Form) (u : Role) (e : ℕ) (o : Object) (q : x.Part) (qs : List x.Part) (y : Part) (rs : List Part) → is_known o.data_type ≡ true
      → (name_of p scope (s.object e)).of ≡ base s o.data_type → MayStandBehind p scope s q.1 → are_typed y.1 ≡ true → AreNamed p scope s qs rs
      → object_rows s.context u o y rs ≡ [] → Stands form u e o q qs y rs
  stands form u e o q qs y rs known of behind t named rows =
      let c : Context = s.context in
      let b : Bool = is_allocation u && is_last rs in
      let inside : Enters b (start o) o y.1 = enters b (start o) o y refl t (first _ _ rows) in
      let others = second (enter_rows b o y) _ rows in
      let d : DesignatorNode = n.name (s.object e) (selection o q.1) in
      let rest : Arrives p scope s agrees u qs rs inside.reach d o =
      walk p scope s agrees u qs rs named inside.reach d o inside.object inside.fit known (takes p scope s o q.1 behind) of
      (subst (λ z. along_rows c u rs z ≡ []) inside.is (first _ _ others)) in
      let reached : object_reach c u o y rs ≡ Some rest.reach = ap (along c u rs) inside.is ∙ rest.is in
      let all : Has_all form u rest.reach = has_all form u y.0 rest.reach rest.fit (subst (λ z. reach_rows u y.0 z ≡ []) reached (second (along_rows c u rs _) _ others)) in
      record {
        has = all.has;
        is = ap (λ z. reach_has form u z) reached ∙ all.is;
        form_is = all.form_is;
        known = ap is_known all.type_is ∙ rest.known;
        locates = rest.locates;
        of = rest.of ∙ ap (base s) (sym all.type_is);
        may = rest.may;
      }
