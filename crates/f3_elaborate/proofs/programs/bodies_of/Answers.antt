use Rattle.std.proofs.Common.{◌<◌, ◌^◌, List, length, map, ap, subst, sym, ◌∙◌}
use Rattle.std.specs.List.{flat_map}
use Rattle.std.proofs.lemmas.List.{length-map}
use Rattle.f3_access.specs.Access.{entities_of}
use Rattle.f3_kinds.specs.Things.{map_or}
use Rattle.f3_scopes.specs.Outlines.{scope_view}
use Rattle.f3_scopes.specs.Scopes.{scopes_of}
use Rattle.f3_tree.specs.Tree.{UnitTree, unit_view, view}
use Rattle.f3_type_rules.specs.Members.{Numbered, units_from}
use Rattle.f3_elaboration.specs.Program.{main_unit, nothing_done}
use Rattle.f3_elaboration.specs.Units.{main}
use Rattle.f3_program_numbers.proofs.Room.{entities_fit}
use Rattle.f3_program_numbers.proofs.Standing.{as_long, firsts_are, fits, numbered}
use Rattle.f3_elaborate.specs.Inner.Units.{procedures_in}
use Rattle.f3_elaborate.proofs.programs.bodies_of.Goals as goal

pub firsts-requires : goal.firsts-requires
firsts-requires c =
    subst (λ ss. length (entities_of ss) < 2 ^ 64) (sym (c.outlines.ensures ∙ c.requires.names.scopes)) (entities_fit (view c.args.program.now) c.args.names.now.entities c.requires.names.entities)

pub procedures-requires-clause-fit : goal.procedures-requires-clause-fit
procedures-requires-clause-fit c =
    let t = view c.args.program.now in
    fits t (map scope_view c.outlines.result.now) c.in_ok-firsts.firsts.items c.deref.result.now c.unit_scopes-scopes.result.now (map unit_view c.deref-2.result.now)
    (c.outlines.ensures ∙ c.requires.names.scopes) c.in_ok-firsts.ensures.each (c.in_ok-firsts.ensures.count ∙ sym (length-map c.outlines.result.now scope_view))
    c.deref.ensures.value (c.unit_scopes-scopes.ensures ∙ c.requires.names.units) (ap (map unit_view) c.deref-2.ensures.value) (entities_fit t c.args.names.now.entities c.requires.names.entities)

pub procedures-requires-clause-numbers : goal.procedures-requires-clause-numbers
procedures-requires-clause-numbers c =
    as_long (view c.args.program.now) c.unit_scopes-scopes.result.now c.deref-2.result.now (c.unit_scopes-scopes.ensures ∙ c.requires.names.units) (ap (map unit_view) c.deref-2.ensures.value)

pub main_of-requires-clause-fit : goal.main_of-requires-clause-fit
main_of-requires-clause-fit c =
    let t = view c.args.program.now in
    fits t (map scope_view c.outlines.result.now) c.in_ok-firsts.firsts.items c.deref.result.now c.unit_scopes-scopes.result.now (map unit_view c.deref-3.result.now)
    (c.outlines.ensures ∙ c.requires.names.scopes) c.in_ok-firsts.ensures.each (c.in_ok-firsts.ensures.count ∙ sym (length-map c.outlines.result.now scope_view))
    c.deref.ensures.value (c.unit_scopes-scopes.ensures ∙ c.requires.names.units) (ap (map unit_view) c.deref-3.ensures.value) (entities_fit t c.args.names.now.entities c.requires.names.entities)

pub main_of-requires-clause-numbers : goal.main_of-requires-clause-numbers
main_of-requires-clause-numbers c =
    as_long (view c.args.program.now) c.unit_scopes-scopes.result.now c.deref-3.result.now (c.unit_scopes-scopes.ensures ∙ c.requires.names.units) (ap (map unit_view) c.deref-3.ensures.value)

pub returns-clause-procedures : goal.returns-clause-procedures
returns-clause-procedures c = λ w known.
    let t = view c.args.program.now in
    let us = ap (map unit_view) c.deref-2.ensures.value in
    c.in_ok-procedures.ensures.found w (scopes_of t) known
    (firsts_are t _ _ c.deref.result.now (c.outlines.ensures ∙ c.requires.names.scopes) c.in_ok-firsts.ensures.each c.deref.ensures.value)
    (numbered t _ _ (c.unit_scopes-scopes.ensures ∙ c.requires.names.units) us)
    ∙ ap (λ (xs : List UnitTree). flat_map (procedures_in w) (units_from (scopes_of t) 0 xs)) us

pub returns-clause-main : goal.returns-clause-main
returns-clause-main c = λ w known.
    let t = view c.args.program.now in
    let us = ap (map unit_view) c.deref-3.ensures.value in
    c.in_ok-main.ensures.procedure w (scopes_of t) (c.in_ok-procedures.ensures.knows w known)
    (firsts_are t _ _ c.deref.result.now (c.outlines.ensures ∙ c.requires.names.scopes) c.in_ok-firsts.ensures.each c.deref.ensures.value)
    (numbered t _ _ (c.unit_scopes-scopes.ensures ∙ c.requires.names.units) us)
    ∙ ap (λ (xs : List UnitTree). map_or (nothing_done t.end) (main w) (main_unit (units_from (scopes_of t) 0 xs))) us

pub returns-clause-start : goal.returns-clause-start
returns-clause-start c =
    let t = view c.args.program.now in
    let us = ap (map unit_view) c.deref-3.ensures.value in
    c.in_ok-main.ensures.start (scopes_of t) (numbered t _ _ (c.unit_scopes-scopes.ensures ∙ c.requires.names.units) us)
    ∙ ap (λ (xs : List UnitTree). map_or t.end (λ (u : Numbered). (u.tree).place) (main_unit (units_from (scopes_of t) 0 xs))) us
