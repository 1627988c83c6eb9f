use Rattle.std.proofs.Common.{nat_eq, sym, ◌∙◌}
use Rattle.indexmap.specs.IndexMap.{get}
use Rattle.f3_access.proofs.Outward.{hosts_are_before}
use Rattle.f3_access.specs.Tables.{host_of}
use Rattle.f3_names.proofs.Holding.{outermost_last, outermost_more}
use Rattle.f3_names.proofs.table.Names.unit.Goals as goal

pub loop-host-preserved : goal.loop-host-preserved
loop-host-preserved c =
    let tables = c.args.self.now.tables in
    let before = hosts_are_before tables.scopes.items tables.accesses.items (get nat_eq tables.modules) tables.of_scopes in
    outermost_more (host_of tables) before c.loop-host.number c.in-Some.host (sym c.host.ensures.host ∙ c.in-Some.is) ∙ c.loop-host.invariant

pub returns : goal.returns
returns c =
    let tables = c.args.self.now.tables in
    let before = hosts_are_before tables.scopes.items tables.accesses.items (get nat_eq tables.modules) tables.of_scopes in
    sym (outermost_last (host_of tables) before c.loop-host.number (sym c.host.ensures.host ∙ c.in_default.is)) ∙ c.loop-host.invariant
