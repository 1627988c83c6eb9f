use Rattle.std.proofs.Common.{ℕ, ◌+◌, map, ap, arith}
use Rattle.f3_elaboration.specs.DeclaredViews.{derived_view}
use Rattle.f3_type_nodes.proofs.Walks.{part_more, next_more, part_done}
use Rattle.f3_type_nodes.proofs.definitions.add_definitions.Goals as goal

pub loop-given-preserved : goal.loop-given-preserved
loop-given-preserved c =
    let xs = c.args.list.now in
    let i = c.loop-given.given-index in
    let next = ap (λ (k : ℕ). c.loop-given.next + k) c.declared_by-next.ensures in
    record {
      next = next_more xs i c.given-item.result c.loop-given.next _ _ c.loop-given-test.true c.given-item.is next c.loop-given.invariant.next;
      made = λ w inner u h.
          part_more w u xs i c.given-item.result c.loop-given.next _ (map derived_view c.loop-given.found.items) (map derived_view c.add_definition.new.found.items) _
          c.loop-given-test.true c.given-item.is next (c.in_ok-add_definition.ensures w inner u h) (c.loop-given.invariant.made w inner u h);
    }

pub returns : goal.returns
returns c = λ w inner u h.
    part_done w u c.args.list.now c.loop-given.given-index c.loop-given.next (map derived_view c.loop-given.found.items) _
    (omega (arith, c.loop-given-test.false)) (c.loop-given.invariant.made w inner u h)
