use Rattle.std.proofs.Common.{map, nat_eq}
use Rattle.indexmap.specs.IndexMap.{get}
use Rattle.f3_scopes.specs.Outlines.{scope_view}
use Rattle.f3_access.proofs.Answering.{are_tables}
use Rattle.f3_access.proofs.filling.tables.Goals as goal

pub invariant_of-result : goal.invariant_of-result
invariant_of-result c =
    record {
      of_scopes = ∣ (
        map scope_view c.args.outlines.now,
        are_tables (map scope_view c.args.outlines.now) c.args.order.now c.requires.order c.requires.modules c.requires.hosts
            c.in_ok-scopes.scopes.items c.in_ok-accesses.accesses.items (get nat_eq c.in_ok-modules.modules) c.in_ok-scopes.ensures c.in_ok-accesses.ensures c.in_ok-modules.ensures,
      ) ∣₁;
    }

pub returns : goal.returns
returns c =
    are_tables (map scope_view c.args.outlines.now) c.args.order.now c.requires.order c.requires.modules c.requires.hosts
    c.in_ok-scopes.scopes.items c.in_ok-accesses.accesses.items (get nat_eq c.in_ok-modules.modules) c.in_ok-scopes.ensures c.in_ok-accesses.ensures c.in_ok-modules.ensures
