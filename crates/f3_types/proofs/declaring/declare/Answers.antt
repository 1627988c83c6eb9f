use Rattle.std.proofs.Common.{◌≡◌, None, length, map, replicate, refl, sym, ap, subst, ◌∙◌, rules}
use Rattle.std.proofs.lemmas.List.{length-map}
use Rattle.f3_access.specs.Tables.{lookup_of}
use Rattle.f3_graph.specs.Order.{numbers_of}
use Rattle.f3_scopes.specs.Outlines.{scope_view}
use Rattle.f3_scopes.specs.Scopes.{scopes_of}
use Rattle.f3_tree.specs.Tree.{unit_view, view}
use Rattle.f3_typed_parts.specs.Noted.{noted}
use Rattle.f3_type_rules.specs.Declarations.{unit_rows, unit_next}
use Rattle.f3_type_rules.specs.Members.{units_from}
use Rattle.f3_type_rules.specs.Program.{nothing_known, units_in}
use Rattle.f3_type_rules.specs.Walks.{after, along}
use Rattle.f3_entities.specs.Growth.{Stands}
use Rattle.f3_types.specs.Parts.{scene_in, declared_along}
use Rattle.f3_types.proofs.Fitting.{numbers_long}
use Rattle.f3_types.proofs.Standing.{begins, firsts_are, fits, knows, numbered, room_is}
use Rattle.f3_types.proofs.declaring.declare.Goals as goal

pub units-requires-clause-fit : goal.units-requires-clause-fit
units-requires-clause-fit c =
    let t = view c.args.program.now in
    fits t (map scope_view c.outlines.result.now) c.in_ok-firsts.firsts.items c.deref.result.now c.unit_scopes.result.now (map unit_view c.deref-2.result.now) _
    (c.outlines.ensures ∙ c.requires.names.scopes) c.in_ok-firsts.ensures.each (c.in_ok-firsts.ensures.count ∙ sym (length-map c.outlines.result.now scope_view))
    c.deref.ensures.value (c.unit_scopes.ensures ∙ c.requires.names.units) (ap (map unit_view) c.deref-2.ensures.value)
    (room_is t (lookup_of c.args.names.now.tables) c.args.known c.args.scenery c.requires.scene c.requires.values)

pub units-requires-clause-numbers : goal.units-requires-clause-numbers
units-requires-clause-numbers c =
    numbers_long (view c.args.program.now) c.unit_scopes.result.now (c.unit_scopes.ensures ∙ c.requires.names.units)
    ∙ length-map c.args.program.now.units.items unit_view ∙ ap length (sym c.deref-2.ensures.value)

pub returns : goal.returns
returns c =
    let t = view c.args.program.now in
    let look = lookup_of c.args.names.now.tables in
    let s = scene_in t look in
    let us = ap (map unit_view) c.deref-2.ensures.value in
    let cells : c.in_ok-cells.cells.items ≡ replicate c.len.result None = search rules in
    let stands = begins s _ _ _ c.requires.scene refl c.requires.values cells in
    let firsts = firsts_are t _ _ c.deref.result.now (c.outlines.ensures ∙ c.requires.names.scopes) c.in_ok-firsts.ensures.each c.deref.ensures.value in
    let numbers = numbered t c.unit_scopes.result.now (map unit_view c.deref-2.result.now) (c.unit_scopes.ensures ∙ c.requires.names.units) us in
    let end : Stands s c.units.new.growth (declared_along t look (numbers_of c.args.order.now)) =
    subst (λ xs. Stands s c.units.new.growth (after (unit_next s) nothing_known (units_in (units_from (scopes_of t) 0 xs) (numbers_of c.args.order.now)))) us
    (c.in_ok-units.ensures.stands s nothing_known (scopes_of t) stands firsts numbers) in
    record {
      noted = c.in_ok-units.ensures.noted s nothing_known (scopes_of t) stands firsts numbers
          ∙ ap (λ xs. noted c.args.first.now (along (unit_rows s) (unit_next s) nothing_known (units_in (units_from (scopes_of t) 0 xs) (numbers_of c.args.order.now)))) us;
      known = knows s _ _ end;
      cells = end.cells;
    }
