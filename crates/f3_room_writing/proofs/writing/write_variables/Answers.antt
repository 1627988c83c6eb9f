use Rattle.std.proofs.Common.{arith}
use Rattle.f3_meaning_whole.specs.Shape.{shapes_of}
use Rattle.f3_data.specs.Values.{value_of, values_of}
use Rattle.f3_room_values.proofs.Leaving.{drop_next}
use Rattle.f3_room_writing.specs.Writes.{VariableWritten}
use Rattle.f3_room_writing.proofs.Leaving.{if_some, drop_value, many_values, next_variable, all_written}
use Rattle.f3_room_writing.proofs.writing.write_variables.Goals as goal

pub loop-number-preserved : goal.loop-number-preserved
loop-number-preserved g c =
    let ts = shapes_of c.args.types.now in
    let p = g.B.Blocks.blocks c.loop-number.heap in
    let q = g.B.Blocks.blocks c.write_variable.new.heap in
    let x = c.index-declared-number.result in
    let y = c.index-values-number.result in
    next_variable ts c.args.block (g.B.Blocks.blocks c.args.heap.now) p q c.args.declared.now x c.args.first c.loop-number.number c.loop-number.at c.in-Some.behind (value_of y)
    (values_of c.args.values.now) c.loop-number.invariant (drop_next c.args.declared.now c.loop-number.number x c.loop-number-test.true c.index-declared-number.is)
    (drop_value c.args.values.now c.loop-number.number y (omega arith) c.index-values-number.is)
    (if_some c.in_ok-behind.field-0 c.in-Some.behind (VariableWritten p q ts x c.args.block c.loop-number.at (value_of y)) c.in-Some.is (c.in_ok-behind.ensures {u = tt}))

pub returns : goal.returns
returns g c fine =
    let same = many_values c.args.values.now in
    (all_written (shapes_of c.args.types.now) c.args.block (g.B.Blocks.blocks c.args.heap.now) (g.B.Blocks.blocks c.loop-number.heap) c.args.declared.now c.args.first
    c.loop-number.number c.loop-number.at (values_of c.args.values.now) c.loop-number.invariant (omega arith) (omega arith)).writes
