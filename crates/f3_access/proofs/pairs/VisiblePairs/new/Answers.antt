use Rattle.std.proofs.Common.{nat_eq, ap, ◌∙◌}
use Rattle.indexmap.specs.IndexMap.{get}
use Rattle.f3_access.specs.Pairs.{seen_behind}
use Rattle.f3_access.proofs.Outward.{hosts_are_before, behind_all}
use Rattle.f3_access.proofs.pairs.VisiblePairs.new.Goals as goal

pub returns : goal.returns
returns c =
    let tables = c.args.tables.now in
    let list = tables.scopes.items in
    ap (seen_behind list c.args.scope c.args.scope) c.own.ensures
    ∙ behind_all list (hosts_are_before list tables.accesses.items (get nat_eq tables.modules) tables.of_scopes) c.args.scope c.args.scope
