use Rattle.std.proofs.Common.{◌+◌, ◌<◌, ◌^◌, map, sym, ap, subst, ◌∙◌}
use Rattle.f3_access.specs.Tables.{lookup_of}
use Rattle.f3_graph.specs.Order.{numbers_of}
use Rattle.f3_tree.specs.Tree.{unit_view, view}
use Rattle.f3_typed_parts.specs.Noted.{noted}
use Rattle.f3_sites.specs.Sites.{site_of}
use Rattle.f3_unit_bodies.specs.Bodies.{unit_widths, units_rows}
use Rattle.f3_types.specs.Parts.{scene_in, declared_along}
use Rattle.f3_types.proofs.Counting.{settled}
use Rattle.f3_types.proofs.Standing.{scopes_fit, things_long}
use Rattle.f3_types.proofs.Ending.{begun_with, bodies_noted, typed, typed_along, widths_fit}
use Rattle.f3_types.proofs.typed.define.Goals as goal

pub bodies-requires-clause-settled : goal.bodies-requires-clause-settled
bodies-requires-clause-settled c =
    let t = view c.args.program.now in
    let look = lookup_of c.args.names.now.tables in
    let p = c.in_ok-site.site in
    let h = begun_with (scene_in t look) (declared_along t look (numbers_of c.args.order.now)).values c.args.declared.known p c.args.holders.now c.requires.known
    c.in_ok-site.ensures.known c.in_ok-site.ensures.active c.in_ok-site.ensures.holders c.requires.holders c.in_ok-site.ensures.chains in
    settled t c.args.names.now.tables p c.requires.names.tables h.look (things_long t look p.known.things.items h.natures)

pub bodies-requires-clause-numbers : goal.bodies-requires-clause-numbers
bodies-requires-clause-numbers c =
    let t = view c.args.program.now in
    subst (λ us. 0 + unit_widths us < 2 ^ 64) (sym (ap (map unit_view) c.deref.ensures.value)) (widths_fit t (scopes_fit t c.args.names.now.outlines c.requires.names.scopes))

pub returns : goal.returns
returns c =
    let t = view c.args.program.now in
    let look = lookup_of c.args.names.now.tables in
    let order = numbers_of c.args.order.now in
    let values = (declared_along t look order).values in
    let p = c.in_ok-site.site in
    let h = begun_with (scene_in t look) values c.args.declared.known p c.args.holders.now c.requires.known
    c.in_ok-site.ensures.known c.in_ok-site.ensures.active c.in_ok-site.ensures.holders c.requires.holders c.in_ok-site.ensures.chains in
    record {
      noted = c.in_ok-bodies.ensures.noted
          ∙ ap (λ us. noted c.args.first.now (units_rows (site_of p) 0 us)) (ap (map unit_view) c.deref.ensures.value)
          ∙ ap (noted c.args.first.now) (bodies_noted t look order p h);
      types = typed t look order p c.bodies.new.site _ c.requires.names.tables.resolves c.requires.order h c.in_ok-bodies.ensures.site c.requires.cells;
      along = typed_along t look order p c.bodies.new.site _ h c.in_ok-bodies.ensures.site c.requires.cells;
    }

pub invariant_of-result : goal.invariant_of-result
invariant_of-result c =
    let t = view c.args.program.now in
    let look = lookup_of c.args.names.now.tables in
    let order = numbers_of c.args.order.now in
    let p = c.in_ok-site.site in
    let h = begun_with (scene_in t look) (declared_along t look order).values c.args.declared.known p c.args.holders.now c.requires.known
    c.in_ok-site.ensures.known c.in_ok-site.ensures.active c.in_ok-site.ensures.holders c.requires.holders c.in_ok-site.ensures.chains in
    record {
      of_a_program = ∣ (t, typed t look order p c.bodies.new.site _ c.requires.names.tables.resolves c.requires.order h c.in_ok-bodies.ensures.site c.requires.cells) ∣₁;
    }
