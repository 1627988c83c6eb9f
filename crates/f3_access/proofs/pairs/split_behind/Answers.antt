use Rattle.std.proofs.Common.{◌++◌, nat_eq, sym, ap, ◌∙◌}
use Rattle.indexmap.specs.IndexMap.{get}
use Rattle.f3_access.specs.Parts.{host_at, seen_from}
use Rattle.f3_access.specs.Pairs.{outward_from, seen_behind}
use Rattle.f3_access.proofs.Outward.{hosts_are_before, behind_all}
use Rattle.f3_access.proofs.pairs.split_behind.Goals as goal

pub loop-first-preserved : goal.loop-first-preserved
loop-first-preserved c =
    let tables = c.args.tables.now in
    let list = tables.scopes.items in
    let before = hosts_are_before list tables.accesses.items (get nat_eq tables.modules) tables.of_scopes in
    let scope = c.args.scope in
    let holder = c.in_ok-holder.holder in
    ap (seen_behind list scope holder) c.own-left.ensures
    ∙ behind_all list before scope holder
    ∙ ap (λ o. seen_from list scope (outward_from list o)) c.in_ok-holder.ensures.host
    ∙ ap (λ l. l ++ seen_from list scope (outward_from list (host_at list c.loop-first.holder))) (sym c.in_default.ensures)
    ∙ c.loop-first.invariant
