use Rattle.std.proofs.Common.{◌≡◌, true, nat_eq, slice_get, sym, ap, ◌∙◌}
use Rattle.indexmap.specs.IndexMap.{get}
use Rattle.f3_access.specs.Parts.{lookup_in, is_nothing, holder_among}
use Rattle.f3_access.specs.Pairs.{outward_from}
use Rattle.f3_access.proofs.Outward.{hosts_are_before, holder_from}
use Rattle.f3_access.proofs.reading.holder.Goals as goal

pub loop-around-preserved : goal.loop-around-preserved
loop-around-preserved c =
    let tables = c.args.tables.now in
    let list = tables.scopes.items in
    let before = hosts_are_before list tables.accesses.items (get nat_eq tables.modules) tables.of_scopes in
    let number = c.in-Some.number in
    let nothing : is_nothing (lookup_in (slice_get list number) c.args.symbol) ≡ true =
    ap is_nothing (sym c.own_lookup.ensures) ∙ sym c.is_nothing.ensures ∙ c.if-not-is_nothing.false in
    let step : holder_among list (outward_from list c.host-around.result) c.args.symbol ≡ holder_among list (outward_from list c.loop-around.around) c.args.symbol =
    holder_from list before number c.args.symbol c.host-around.result c.host-around.ensures.host nothing ∙ ap (λ o. holder_among list (outward_from list o) c.args.symbol) (sym c.in-Some.is) in
    step ∙ c.loop-around.invariant
