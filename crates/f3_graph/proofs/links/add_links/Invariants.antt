use Rattle.std.proofs.Common.{◌≡◌, ◌++◌, map, drop, nat_eq}
use Rattle.indexmap.specs.IndexMap.{get}
use Rattle.f3_tree.specs.declared.expression.Name.{Name}
use Rattle.f3_graph.specs.declared.links.Link.{Link}
use Rattle.f3_graph.proofs.links.add_links.Given as goal

abbrev pub invariant-loop-name : goal.invariant-loop-name
invariant-loop-name l =
    let link : Name → Link = λ x. record { home = l.home; target = get nat_eq l.modules x.symbol; name = x } in
    l.links.items ++ map link (drop l.name-index l.uses) ≡ l.fn.links.items ++ map link l.uses
