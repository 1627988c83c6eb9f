use Rattle.std.proofs.Common.{nat_eq}
use Rattle.indexmap.specs.IndexMap.{get}
use Rattle.f3_access.proofs.Outward.{hosts_are_before, some_before}
use Rattle.f3_access.proofs.reading.host.Goals as goal

pub returns-clause-before : goal.returns-clause-before
returns-clause-before c =
    let tables = c.args.tables.now in
    let list = tables.scopes.items in
    some_before list (hosts_are_before list tables.accesses.items (get nat_eq tables.modules) tables.of_scopes) c.args.scope c.host_of.result c.host_of.ensures
