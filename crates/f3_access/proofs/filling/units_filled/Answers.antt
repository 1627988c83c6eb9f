use Rattle.std.proofs.Common.{List, ◌<◌, length, map, get_or, sym, ap, subst, ◌∙◌, arith}
use Rattle.std.proofs.lemmas.List.{length-set, length-map}
use Rattle.f3_scopes.specs.Outlines.{scope_view}
use Rattle.f3_access.specs.declared.table.ScopeTable.{ScopeTable}
use Rattle.f3_access.specs.Parts.{Stands}
use Rattle.f3_access.proofs.Standing.{inside, unit_more, units_stand}
use Rattle.f3_access.proofs.filling.units_filled.Goals as goal

pub fill-requires-clause-scope : goal.fill-requires-clause-scope
fill-requires-clause-scope c =
    let fits = inside (map scope_view c.args.outlines.now) c.args.order.now c.requires.order c.loop-at.at-index c.loop-at-test.true in
    omega (arith, fits, length-map c.args.outlines.now scope_view)

pub loop-at-preserved : goal.loop-at-preserved
loop-at-preserved c =
    let scopes = map scope_view c.args.outlines.now in
    let order = c.args.order.now in
    let i = c.loop-at.at-index in
    let w = c.in_ok-fill.ensures.table in (
      ap length w.1 ∙ length-set c.loop-at.tables.items (get_or order i 0) w.0 ∙ c.loop-at.invariant.0,
      λ k lt. subst (λ (l : List ScopeTable). Stands scopes l (get_or order k 0)) (sym w.1)
          (unit_more scopes order c.requires.order c.loop-at.tables.items i w.0 c.loop-at-test.true (c.loop-at.invariant.0 ∙ sym (length-map c.args.outlines.now scope_view)) w.2 c.loop-at.invariant.1 k lt),
      c.in_ok-fill.ensures.places,
    )

pub returns-clause-units : goal.returns-clause-units
returns-clause-units c =
    units_stand (map scope_view c.args.outlines.now) c.args.order.now c.requires.order c.loop-at.tables.items (c.loop-at.invariant.0 ∙ sym (length-map c.args.outlines.now scope_view))
    (λ k lt. c.loop-at.invariant.1 k (let all : k < c.loop-at.at-index = omega (arith, lt, c.loop-at-test.false) in all))
