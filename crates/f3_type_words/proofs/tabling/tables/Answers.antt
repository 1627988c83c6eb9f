use Rattle.std.proofs.Common.{arith, take, ◌≤◌, ◌<◌}
use Rattle.f3_type_words.specs.Most.{most_words}
use Rattle.f3_rooms.specs.Forms.{words_for}
use Rattle.f3_type_words.specs.Tables.{IsTable}
use Rattle.f3_type_words.proofs.TableLaws.{shape_next, is_made, next_table, some_large, all_small, is_small}
use Rattle.f3_type_words.proofs.tabling.tables.Goals as goal

pub returns-in-None-clause-tables : goal.returns-in-None-clause-tables
returns-in-None-clause-tables c =
    let made = is_made c.args.types.now c.loop-one.one-index c.one-item.result c.loop-one.tables.items c.deref.result.now c.deref-in-loop-one.result.now c.in_ok-table.field-0
    c.deref.ensures.value c.deref-in-loop-one.ensures.value c.in_ok-table.ensures c.loop-one.invariant.0 in
    let much : most_words < words_for (shape_next (take c.loop-one.one-index c.args.types.now) c.one-item.result) = rw c.in-None.is at made in
    some_large c.args.types.now c.loop-one.one-index c.one-item.result (omega arith) c.one-item.is much

pub loop-one-preserved : goal.loop-one-preserved
loop-one-preserved c =
    let s = shape_next (take c.loop-one.one-index c.args.types.now) c.one-item.result in
    let made = is_made c.args.types.now c.loop-one.one-index c.one-item.result c.loop-one.tables.items c.deref.result.now c.deref-in-loop-one.result.now c.in_ok-table.field-0
    c.deref.ensures.value c.deref-in-loop-one.ensures.value c.in_ok-table.ensures c.loop-one.invariant.0 in
    let is : IsTable s c.in-Some.table × (c.in-Some.table.words ≤ most_words) = rw c.in-Some.is at made in (
      next_table c.args.types.now c.loop-one.one-index c.one-item.result c.loop-one.tables.items _ c.in-Some.table (omega arith) c.one-item.is c.loop-one.invariant.0 is.0
          c.in_ok-push-in-Some.ensures.items,
      all_small c.args.types.now c.loop-one.one-index c.one-item.result (omega arith) c.one-item.is c.loop-one.invariant.1 (is_small s c.in-Some.table is),
    )
