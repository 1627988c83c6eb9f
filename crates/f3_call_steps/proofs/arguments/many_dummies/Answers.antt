use Rattle.std.proofs.Common.{◌≡◌, ◌<◌, length, map, ap, ◌∙◌, arith}
use Rattle.std.proofs.lemmas.List.{length-map}
use Rattle.std.proofs.lemmas.Grind.{common_steps}
use Rattle.f3_meaning_whole.specs.Exec.{argument_at, bound}
use Rattle.f3_data.specs.References.{reference_of}
use Rattle.f3_cells.specs.Cells.{passed_of}
use Rattle.f3_call_steps.proofs.Standing.{entry_inside, entry_argument}
use Rattle.f3_call_steps.proofs.arguments.many_dummies.Goals as goal

pub dummy_for-requires-clause-inside : goal.dummy_for-requires-clause-inside
dummy_for-requires-clause-inside c =
    let lt : c.loop-number.number < length c.in_ok-table.table.items = omega (arith, c.in_ok-table.ensures.len) in
    entry_inside c.in_ok-table.table.items (map passed_of c.args.arguments.now) c.loop-number.number c.index.result.now c.in_ok-table.ensures.firsts lt
    c.index.ensures (length c.args.arguments.now) (length-map c.args.arguments.now passed_of)

pub loop-number-preserved : goal.loop-number-preserved
loop-number-preserved c =
    let lt : c.loop-number.number < length c.in_ok-table.table.items = omega (arith, c.in_ok-table.ensures.len) in
    let dummy = c.index-declared-number.result in
    let ps = map passed_of c.args.arguments.now in
    let is : reference_of c.in_ok-dummy_for.field-0 ≡ bound dummy (argument_at c.loop-number.number dummy.kind.of ps c.args.level 0 c.args.unit) =
    c.in_ok-dummy_for.ensures
    ∙ ap (bound dummy) (entry_argument c.in_ok-table.table.items ps c.loop-number.number c.index.result.now c.in_ok-table.ensures.firsts lt c.index.ensures
    dummy.kind.of c.args.level c.args.unit) in
    grind (arith, common_steps, is)
