use Rattle.std.proofs.Common.{List, length, map, ap, sym, ◌∙◌}
use Rattle.std.specs.List.{flat_map}
use Rattle.std.proofs.lemmas.List.{length-map}
use Rattle.f3_graph.specs.Order.{numbers_of}
use Rattle.f3_scopes.specs.Outlines.{scope_view}
use Rattle.f3_scopes.specs.Scopes.{scopes_of}
use Rattle.f3_tree.specs.Tree.{UnitTree, unit_view, view}
use Rattle.f3_type_rules.specs.Members.{units_from}
use Rattle.f3_type_rules.specs.Program.{units_in}
use Rattle.f3_elaboration.specs.Declarations.{derived}
use Rattle.f3_elaboration.specs.Numbers.{definitions}
use Rattle.f3_type_nodes.proofs.Fitting.{few_entities, firsts_are, units_fit, numbers_long, numbers_are}
use Rattle.f3_type_nodes.proofs.units.types.Goals as goal

pub firsts-requires : goal.firsts-requires
firsts-requires c =
    few_entities (view c.args.program.now) c.args.names.now.entities (map scope_view c.outlines.result.now) c.requires.entities (c.outlines.ensures ∙ c.requires.scopes)

pub types_along-requires-clause-fit : goal.types_along-requires-clause-fit
types_along-requires-clause-fit c =
    units_fit (view c.args.program.now) c.args.names.now (map scope_view c.outlines.result.now) c.in_ok-firsts.firsts.items c.deref.result.now
    c.unit_scopes-numbers.result.now (map unit_view c.deref-2.result.now) c.requires c.outlines.ensures c.in_ok-firsts.ensures.each
    (c.in_ok-firsts.ensures.count ∙ sym (length-map c.outlines.result.now scope_view)) c.deref.ensures.value c.unit_scopes-numbers.ensures
    (ap (map unit_view) c.deref-2.ensures.value)

pub types_along-requires-clause-numbers : goal.types_along-requires-clause-numbers
types_along-requires-clause-numbers c =
    ap length (c.unit_scopes-numbers.ensures ∙ c.requires.units) ∙ numbers_long 0 (view c.args.program.now).units
    ∙ length-map c.args.program.now.units.items unit_view ∙ ap length (sym c.deref-2.ensures.value)

pub returns : goal.returns
returns c = λ w inner h.
    let t = view c.args.program.now in
    let us = ap (map unit_view) c.deref-2.ensures.value in
    c.in_ok-found.ensures w inner (scopes_of t)
    record {
      stands = h;
      first = firsts_are t (map scope_view c.outlines.result.now) c.in_ok-firsts.firsts.items c.deref.result.now (c.outlines.ensures ∙ c.requires.scopes)
          c.in_ok-firsts.ensures.each c.deref.ensures.value;
      number = numbers_are t c.unit_scopes-numbers.result.now (map unit_view c.deref-2.result.now) (c.unit_scopes-numbers.ensures ∙ c.requires.units) us;
    }
    ∙ ap (λ (xs : List UnitTree). map (derived w) (flat_map definitions (units_in (units_from (scopes_of t) 0 xs) (numbers_of c.args.order.now)))) us
