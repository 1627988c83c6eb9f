use Rattle.std.proofs.Common.{◌≡◌, ◌<◌, ◌^◌, List, ℕ, map, length, sym, ap, subst, ◌∙◌}
use Rattle.std.proofs.lemmas.List.{length-map}
use Rattle.f3_access.specs.Access.{entities_of}
use Rattle.f3_graph.specs.Order.{numbers_of as places_of}
use Rattle.f3_program.specs.declared.expression.Name.TheVariants.{Static}
use Rattle.f3_scopes.specs.Outlines.{scope_view}
use Rattle.f3_scopes.specs.Scopes.{scopes_of}
use Rattle.f3_tree.specs.Tree.{unit_view, view}
use Rattle.f3_type_rules.specs.Members.{Numbered, units_from}
use Rattle.f3_type_rules.specs.Program.{units_in}
use Rattle.f3_elaboration.specs.Numbers.{Numbers, numbers_of}
use Rattle.f3_numbers.specs.Table.{object_in, procedure_in, type_in}
use Rattle.f3_program_numbers.specs.Filled.{with_list}
use Rattle.f3_program_numbers.specs.Walks.{statics_by, procedures_by, types_by}
use Rattle.f3_program_numbers.proofs.Room.{entities_fit}
use Rattle.f3_program_numbers.proofs.Same.{statics_same, procedures_same, types_same}
use Rattle.f3_program_numbers.proofs.Standing.{firsts_are, fits, numbered, as_long, found_all}
use Rattle.f3_program_numbers.proofs.Whole.{filled}
use Rattle.f3_program_numbers.proofs.program.program_numbers.Goals as goal

pub firsts-requires : goal.firsts-requires
firsts-requires c =
    subst (λ ss. length (entities_of ss) < 2 ^ 64) (sym (c.outlines.ensures ∙ c.requires.scopes)) (entities_fit (view c.args.program.now) c.args.names.now.entities c.requires.entities)

pub statics-requires-clause-fit : goal.statics-requires-clause-fit
statics-requires-clause-fit c =
    let t = view c.args.program.now in
    fits t (map scope_view c.outlines.result.now) c.in_ok-firsts.firsts.items c.deref.result.now c.unit_scopes-scopes.result.now (map unit_view c.deref-2.result.now)
    (c.outlines.ensures ∙ c.requires.scopes) c.in_ok-firsts.ensures.each (c.in_ok-firsts.ensures.count ∙ sym (length-map c.outlines.result.now scope_view))
    c.deref.ensures.value (c.unit_scopes-scopes.ensures ∙ c.requires.units) (ap (map unit_view) c.deref-2.ensures.value) (entities_fit t c.args.names.now.entities c.requires.entities)

pub statics-requires-clause-numbers : goal.statics-requires-clause-numbers
statics-requires-clause-numbers c =
    as_long (view c.args.program.now) c.unit_scopes-scopes.result.now c.deref-2.result.now (c.unit_scopes-scopes.ensures ∙ c.requires.units) (ap (map unit_view) c.deref-2.ensures.value)

pub procedures-requires-clause-fit : goal.procedures-requires-clause-fit
procedures-requires-clause-fit c =
    let t = view c.args.program.now in
    fits t (map scope_view c.outlines.result.now) c.in_ok-firsts.firsts.items c.deref-3.result.now c.unit_scopes-scopes.result.now (map unit_view c.deref-4.result.now)
    (c.outlines.ensures ∙ c.requires.scopes) c.in_ok-firsts.ensures.each (c.in_ok-firsts.ensures.count ∙ sym (length-map c.outlines.result.now scope_view))
    c.deref-3.ensures.value (c.unit_scopes-scopes.ensures ∙ c.requires.units) (ap (map unit_view) c.deref-4.ensures.value) (entities_fit t c.args.names.now.entities c.requires.entities)

pub procedures-requires-clause-numbers : goal.procedures-requires-clause-numbers
procedures-requires-clause-numbers c =
    as_long (view c.args.program.now) c.unit_scopes-scopes.result.now c.deref-4.result.now (c.unit_scopes-scopes.ensures ∙ c.requires.units) (ap (map unit_view) c.deref-4.ensures.value)

pub types-requires-clause-fit : goal.types-requires-clause-fit
types-requires-clause-fit c =
    let t = view c.args.program.now in
    fits t (map scope_view c.outlines.result.now) c.in_ok-firsts.firsts.items c.deref-5.result.now c.unit_scopes-scopes.result.now (map unit_view c.deref-6.result.now)
    (c.outlines.ensures ∙ c.requires.scopes) c.in_ok-firsts.ensures.each (c.in_ok-firsts.ensures.count ∙ sym (length-map c.outlines.result.now scope_view))
    c.deref-5.ensures.value (c.unit_scopes-scopes.ensures ∙ c.requires.units) (ap (map unit_view) c.deref-6.ensures.value) (entities_fit t c.args.names.now.entities c.requires.entities)

pub types-requires-clause-numbers : goal.types-requires-clause-numbers
types-requires-clause-numbers c =
    as_long (view c.args.program.now) c.unit_scopes-scopes.result.now c.deref-6.result.now (c.unit_scopes-scopes.ensures ∙ c.requires.units) (ap (map unit_view) c.deref-6.ensures.value)

pub returns : goal.returns
returns c =
    let t = view c.args.program.now in
    let units : List Numbered = units_from (scopes_of t) 0 t.units in
    let order : List ℕ = places_of c.args.order.now in
    let whole : Numbers = numbers_of units (units_in units order) in
    let scopes = c.outlines.ensures ∙ c.requires.scopes in
    let places = c.unit_scopes-scopes.ensures ∙ c.requires.units in
    let us2 = ap (map unit_view) c.deref-2.ensures.value in
    let us4 = ap (map unit_view) c.deref-4.ensures.value in
    let us6 = ap (map unit_view) c.deref-6.ensures.value in
    let statics : c.deref-7.result.now ≡ whole.statics =
    found_all statics_by (λ us. us) t _ _ _ us2 c.deref-7.ensures.value
    (c.in_ok-statics.ensures (scopes_of t) (firsts_are t _ _ c.deref.result.now scopes c.in_ok-firsts.ensures.each c.deref.ensures.value) (numbered t _ _ places us2))
    ∙ sym (statics_same units) in
    let procedures : c.deref-8.result.now ≡ whole.procedures =
    found_all procedures_by (λ us. us) t _ _ _ us4 c.deref-8.ensures.value
    (c.in_ok-procedures.ensures (scopes_of t) (firsts_are t _ _ c.deref-3.result.now scopes c.in_ok-firsts.ensures.each c.deref-3.ensures.value) (numbered t _ _ places us4))
    ∙ sym (procedures_same (scopes_of t) 0 t.units) in
    let types : c.deref-9.result.now ≡ whole.types =
    found_all types_by (λ us. units_in us order) t _ _ _ us6 c.deref-9.ensures.value
    (c.in_ok-types.ensures (scopes_of t) (firsts_are t _ _ c.deref-5.result.now scopes c.in_ok-firsts.ensures.each c.deref-5.ensures.value) (numbered t _ _ places us6))
    ∙ sym (types_same (units_in units order)) in
    filled c.new-numbers.result c.add_statics.new.numbers c.add_procedures.new.numbers c.add_types.new.numbers whole c.new-numbers.ensures
    (λ e. c.in_ok-add_statics.ensures.objects e ∙ ap (λ l. with_list (object_in c.new-numbers.result) Static l e) statics)
    c.in_ok-add_statics.ensures.procedures c.in_ok-add_statics.ensures.types
    c.in_ok-add_procedures.ensures.objects
    (λ e. c.in_ok-add_procedures.ensures.procedures e ∙ ap (λ l. with_list (procedure_in c.add_statics.new.numbers) (λ (n : ℕ). n) l e) procedures)
    c.in_ok-add_procedures.ensures.types
    c.in_ok-add_types.ensures.objects c.in_ok-add_types.ensures.procedures
    (λ e. c.in_ok-add_types.ensures.types e ∙ ap (λ l. with_list (type_in c.add_procedures.new.numbers) (λ (n : ℕ). n) l e) types)
