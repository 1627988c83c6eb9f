use Rattle.std.proofs.Common.{◌≡◌, ◌++◌, nat_eq, map, drop}
use Rattle.std.specs.Option.{option_map}
use Rattle.indexmap.specs.IndexMap.{get}
use Rattle.f3_tree.specs.declared.expression.Name.{Name}
use Rattle.f3_elaboration.specs.DeclaredViews.{dummy_view}
use Rattle.f3_variable_nodes.specs.Dummies.{dummy_from, found_view}
use Rattle.f3_variable_nodes.proofs.dummies.dummies_from.Given as goal

abbrev pub invariant-loop-name : goal.invariant-loop-name
invariant-loop-name l =
    map dummy_view l.found.items
    ++ map (λ (n : Name). dummy_from l.fn.whole l.fn.unit l.fn.scope (option_map found_view (get nat_eq l.fn.declarations n.symbol))) (drop l.name-index l.fn.list)
    ≡ map (λ (n : Name). dummy_from l.fn.whole l.fn.unit l.fn.scope (option_map found_view (get nat_eq l.fn.declarations n.symbol))) l.fn.list
