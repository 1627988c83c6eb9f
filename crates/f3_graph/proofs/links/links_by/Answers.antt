use Rattle.std.proofs.Common.{nat_eq}
use Rattle.indexmap.specs.IndexMap.{get}
use Rattle.f3_graph.proofs.Naming.{links_step}
use Rattle.f3_graph.proofs.links.links_by.Goals as goal

pub loop-number-preserved : goal.loop-number-preserved
loop-number-preserved c =
    links_step (get nat_eq c.args.modules.now) c.args.units.now c.loop-number.number c.index-units-number.result c.loop-number.links.items c.add_links.new.links.items c.home.result c.deref.result.now _
    c.loop-number-test.true c.index-units-number.is c.home.ensures c.deref.ensures.value c.in_ok-add_links.ensures c.loop-number.invariant
