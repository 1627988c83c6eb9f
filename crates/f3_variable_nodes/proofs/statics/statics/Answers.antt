use Rattle.std.proofs.Common.{◌<◌, ◌≤◌, ◌++◌, ◌-◌, ◌^◌, List, map, length, arith, sym, ap, subst, ◌∙◌}
use Rattle.std.proofs.lemmas.List.{length-map}
use Rattle.f3_access.specs.Access.{entities_of}
use Rattle.f3_scopes.specs.Outlines.{scope_view}
use Rattle.f3_scopes.specs.Scopes.{scopes_of}
use Rattle.f3_tree.specs.Tree.{UnitTree, unit_view, view}
use Rattle.f3_unit_rules.specs.Members.{AreFirsts}
use Rattle.f3_elaboration.specs.DeclaredViews.{static_view}
use Rattle.f3_elaboration.specs.Declarations.{static}
use Rattle.f3_elaboration.specs.Numbers.{unit_statics}
use Rattle.std.specs.List.{flat_map}
use Rattle.f3_type_rules.specs.Members.{units_from}
use Rattle.f3_program.specs.declared.program.Static.{Static}
use Rattle.f3_declaration_nodes.specs.Variables.{static_by}
use Rattle.f3_variable_nodes.specs.Inner.Walk.{AllFit, statics_from}
use Rattle.f3_variable_nodes.proofs.Fitting.{all_fit, few_entities}
use Rattle.f3_variable_nodes.proofs.Same.{statics_stand, units_same}
use Rattle.f3_variable_nodes.proofs.statics.statics.Goals as goal

pub firsts-requires : goal.firsts-requires
firsts-requires c =
    few_entities (view c.args.program.now) c.args.names.now (map scope_view c.outlines.result.now) c.requires (c.outlines.ensures ∙ c.requires.scopes)

pub add_units-requires : goal.add_units-requires
add_units-requires c =
    let few : length (entities_of (map scope_view c.outlines.result.now)) < 2 ^ 64 =
    few_entities (view c.args.program.now) c.args.names.now (map scope_view c.outlines.result.now) c.requires (c.outlines.ensures ∙ c.requires.scopes) in
    let small : length (entities_of (map scope_view c.outlines.result.now)) ≤ 2 ^ 64 - 1 = omega (arith, few) in
    all_fit (view c.args.program.now) (map scope_view c.outlines.result.now) c.in_ok-firsts.firsts.items c.deref.result.now (2 ^ 64 - 1) (map unit_view c.deref-2.result.now)
    (c.outlines.ensures ∙ c.requires.scopes) c.in_ok-firsts.ensures.each (c.in_ok-firsts.ensures.count ∙ sym (length-map c.outlines.result.now scope_view))
    c.deref.ensures.value (ap (map unit_view) c.deref-2.ensures.value) small

pub returns : goal.returns
returns c = λ w inner h.
    let t = view c.args.program.now in
    let few : length (entities_of (map scope_view c.outlines.result.now)) < 2 ^ 64 =
    few_entities t c.args.names.now (map scope_view c.outlines.result.now) c.requires (c.outlines.ensures ∙ c.requires.scopes) in
    let small : length (entities_of (map scope_view c.outlines.result.now)) ≤ 2 ^ 64 - 1 = omega (arith, few) in
    let fit : AllFit c.deref.result.now (2 ^ 64 - 1) 0 (map unit_view c.deref-2.result.now) =
    all_fit t (map scope_view c.outlines.result.now) c.in_ok-firsts.firsts.items c.deref.result.now (2 ^ 64 - 1) (map unit_view c.deref-2.result.now)
    (c.outlines.ensures ∙ c.requires.scopes) c.in_ok-firsts.ensures.each (c.in_ok-firsts.ensures.count ∙ sym (length-map c.outlines.result.now scope_view))
    c.deref.ensures.value (ap (map unit_view) c.deref-2.ensures.value) small in
    let are : AreFirsts (scopes_of t) c.deref.result.now =
    subst (AreFirsts (scopes_of t)) (sym c.deref.ensures.value) (subst (λ ss. AreFirsts ss c.in_ok-firsts.firsts.items) (c.outlines.ensures ∙ c.requires.scopes) c.in_ok-firsts.ensures.each) in
    c.in_ok-add_units.ensures
    ∙ ap (λ (xs : List Static). map static_view xs ++ map (static_by c.args.whole) (statics_from c.deref.result.now 0 (map unit_view c.deref-2.result.now))) c.new-found.ensures.items
    ∙ statics_stand c.args.whole w inner (statics_from c.deref.result.now 0 (map unit_view c.deref-2.result.now)) h
    ∙ ap (map (static w)) (units_same (scopes_of t) c.deref.result.now _ are 0 (map unit_view c.deref-2.result.now) fit
    ∙ ap (λ (us : List UnitTree). flat_map unit_statics (units_from (scopes_of t) 0 us)) (ap (map unit_view) c.deref-2.ensures.value))
