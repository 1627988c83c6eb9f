use Rattle.f3_gen_values.specs.Emitted.{taken}
use Rattle.f3_output.specs.Output.{state_of}
use Rattle.f3_code.specs.declared.instruction.Instruction.TheVariants as i
use Rattle.f3_cells.specs.States.{setting}
use Rattle.f3_machine.proofs.Silent.{by_at, by_does, by_here, by_in, by_of, by_prints, by_there, lines_are}
use Rattle.f3_machine.proofs.table.perform.Goals as goal

pub returns-in-Push : goal.returns-in-Push
returns-in-Push g c =
    by_does c.args.scene.now c.args.line.now.act (taken (setting c.args.scene.now.program.now) c.args.line.now.initial) c.args.place
    c.args.state.now c.push.new.state c.push.result (state_of g.W.Write.contents c.args.output.now)
    (i.Push c.in-Push.a0) c.in-Push.is c.push.ensures

pub returns-in-Plain : goal.returns-in-Plain
returns-in-Plain g c =
    by_does c.args.scene.now c.args.line.now.act (taken (setting c.args.scene.now.program.now) c.args.line.now.initial) c.args.place
    c.args.state.now c.plain.new.state c.plain.result (state_of g.W.Write.contents c.args.output.now)
    i.Plain c.in-Plain.is c.plain.ensures

pub returns-in-Unary : goal.returns-in-Unary
returns-in-Unary g c =
    by_does c.args.scene.now c.args.line.now.act (taken (setting c.args.scene.now.program.now) c.args.line.now.initial) c.args.place
    c.args.state.now c.unary.new.state c.unary.result (state_of g.W.Write.contents c.args.output.now)
    (i.Unary c.in-Unary.a0 c.in-Unary.a1) c.in-Unary.is c.unary.ensures

pub returns-in-Binary : goal.returns-in-Binary
returns-in-Binary g c =
    by_does c.args.scene.now c.args.line.now.act (taken (setting c.args.scene.now.program.now) c.args.line.now.initial) c.args.place
    c.args.state.now c.binary.new.state c.binary.result (state_of g.W.Write.contents c.args.output.now)
    (i.Binary c.in-Binary.a0 c.in-Binary.a1) c.in-Binary.is c.binary.ensures

pub returns-in-Array : goal.returns-in-Array
returns-in-Array g c =
    by_does c.args.scene.now c.args.line.now.act (taken (setting c.args.scene.now.program.now) c.args.line.now.initial) c.args.place
    c.args.state.now c.array.new.state c.array.result (state_of g.W.Write.contents c.args.output.now)
    (i.Array c.in-Array.a0) c.in-Array.is c.array.ensures

pub returns-in-Structure : goal.returns-in-Structure
returns-in-Structure g c =
    by_of c.args.scene.now c.args.line.now.act (taken (setting c.args.scene.now.program.now) c.args.line.now.initial) c.args.place
    c.args.state.now c.structure.new.state c.structure.result (state_of g.W.Write.contents c.args.output.now)
    (i.Structure c.in-Structure.a0 c.in-Structure.a1) c.in-Structure.is c.structure.ensures

pub returns-in-Call : goal.returns-in-Call
returns-in-Call g c =
    by_there c.args.scene.now c.args.line.now.act (taken (setting c.args.scene.now.program.now) c.args.line.now.initial) c.args.place
    c.args.state.now c.call.new.state c.call.result (state_of g.W.Write.contents c.args.output.now)
    (i.Call c.in-Call.a0 c.in-Call.a1) c.in-Call.is (c.call.ensures (taken (setting c.args.scene.now.program.now) c.args.line.now.initial))

pub returns-in-Result : goal.returns-in-Result
returns-in-Result g c =
    by_does c.args.scene.now c.args.line.now.act (taken (setting c.args.scene.now.program.now) c.args.line.now.initial) c.args.place
    c.args.state.now c.result.new.state c.result.result (state_of g.W.Write.contents c.args.output.now)
    i.Result c.in-Result.is c.result.ensures

pub returns-in-IsAllocated : goal.returns-in-IsAllocated
returns-in-IsAllocated g c =
    by_does c.args.scene.now c.args.line.now.act (taken (setting c.args.scene.now.program.now) c.args.line.now.initial) c.args.place
    c.args.state.now c.is_allocated.new.state c.is_allocated.result (state_of g.W.Write.contents c.args.output.now)
    i.IsAllocated c.in-IsAllocated.is c.is_allocated.ensures

pub returns-in-BoundsOfValue : goal.returns-in-BoundsOfValue
returns-in-BoundsOfValue g c =
    by_does c.args.scene.now c.args.line.now.act (taken (setting c.args.scene.now.program.now) c.args.line.now.initial) c.args.place
    c.args.state.now c.bounds_of_value.new.state c.bounds_of_value.result (state_of g.W.Write.contents c.args.output.now)
    i.BoundsOfValue c.in-BoundsOfValue.is c.bounds_of_value.ensures

pub returns-in-BoundsOfVariable : goal.returns-in-BoundsOfVariable
returns-in-BoundsOfVariable g c =
    by_does c.args.scene.now c.args.line.now.act (taken (setting c.args.scene.now.program.now) c.args.line.now.initial) c.args.place
    c.args.state.now c.bounds_of_variable.new.state c.bounds_of_variable.result (state_of g.W.Write.contents c.args.output.now)
    i.BoundsOfVariable c.in-BoundsOfVariable.is c.bounds_of_variable.ensures

pub returns-in-Size : goal.returns-in-Size
returns-in-Size g c =
    by_does c.args.scene.now c.args.line.now.act (taken (setting c.args.scene.now.program.now) c.args.line.now.initial) c.args.place
    c.args.state.now c.size.new.state c.size.result (state_of g.W.Write.contents c.args.output.now)
    i.Size c.in-Size.is c.size.ensures

pub returns-in-Bound : goal.returns-in-Bound
returns-in-Bound g c =
    by_does c.args.scene.now c.args.line.now.act (taken (setting c.args.scene.now.program.now) c.args.line.now.initial) c.args.place
    c.args.state.now c.bound.new.state c.bound.result (state_of g.W.Write.contents c.args.output.now)
    (i.Bound c.in-Bound.a0) c.in-Bound.is c.bound.ensures

pub returns-in-Load : goal.returns-in-Load
returns-in-Load g c =
    by_does c.args.scene.now c.args.line.now.act (taken (setting c.args.scene.now.program.now) c.args.line.now.initial) c.args.place
    c.args.state.now c.load.new.state c.load.result (state_of g.W.Write.contents c.args.output.now)
    i.Load c.in-Load.is c.load.ensures

pub returns-in-PassValue : goal.returns-in-PassValue
returns-in-PassValue g c =
    by_does c.args.scene.now c.args.line.now.act (taken (setting c.args.scene.now.program.now) c.args.line.now.initial) c.args.place
    c.args.state.now c.pass_value.new.state c.pass_value.result (state_of g.W.Write.contents c.args.output.now)
    (i.PassValue c.in-PassValue.a0) c.in-PassValue.is c.pass_value.ensures

pub returns-in-PassVariable : goal.returns-in-PassVariable
returns-in-PassVariable g c =
    by_does c.args.scene.now c.args.line.now.act (taken (setting c.args.scene.now.program.now) c.args.line.now.initial) c.args.place
    c.args.state.now c.pass_variable.new.state c.pass_variable.result (state_of g.W.Write.contents c.args.output.now)
    (i.PassVariable c.in-PassVariable.a0) c.in-PassVariable.is c.pass_variable.ensures

pub returns-in-Refer : goal.returns-in-Refer
returns-in-Refer g c =
    by_there c.args.scene.now c.args.line.now.act (taken (setting c.args.scene.now.program.now) c.args.line.now.initial) c.args.place
    c.args.state.now c.refer.new.state c.refer.result (state_of g.W.Write.contents c.args.output.now)
    (i.Refer c.in-Refer.a0) c.in-Refer.is (c.refer.ensures (taken (setting c.args.scene.now.program.now) c.args.line.now.initial) c.args.place)

pub returns-in-Component : goal.returns-in-Component
returns-in-Component g c =
    by_there c.args.scene.now c.args.line.now.act (taken (setting c.args.scene.now.program.now) c.args.line.now.initial) c.args.place
    c.args.state.now c.component.new.state c.component.result (state_of g.W.Write.contents c.args.output.now)
    (i.Component c.in-Component.a0) c.in-Component.is (c.component.ensures (taken (setting c.args.scene.now.program.now) c.args.line.now.initial) c.args.place)

pub returns-in-ComponentOf : goal.returns-in-ComponentOf
returns-in-ComponentOf g c =
    by_there c.args.scene.now c.args.line.now.act (taken (setting c.args.scene.now.program.now) c.args.line.now.initial) c.args.place
    c.args.state.now c.component_of.new.state c.component_of.result (state_of g.W.Write.contents c.args.output.now)
    (i.ComponentOf c.in-ComponentOf.a0) c.in-ComponentOf.is (c.component_of.ensures (taken (setting c.args.scene.now.program.now) c.args.line.now.initial) c.args.place)

pub returns-in-Contents : goal.returns-in-Contents
returns-in-Contents g c =
    by_does c.args.scene.now c.args.line.now.act (taken (setting c.args.scene.now.program.now) c.args.line.now.initial) c.args.place
    c.args.state.now c.contents.new.state c.contents.result (state_of g.W.Write.contents c.args.output.now)
    i.Contents c.in-Contents.is c.contents.ensures

pub returns-in-Select : goal.returns-in-Select
returns-in-Select g c =
    by_does c.args.scene.now c.args.line.now.act (taken (setting c.args.scene.now.program.now) c.args.line.now.initial) c.args.place
    c.args.state.now c.select.new.state c.select.result (state_of g.W.Write.contents c.args.output.now)
    (i.Select c.in-Select.a0 c.in-Select.a1) c.in-Select.is c.select.ensures

pub returns-in-SelectOf : goal.returns-in-SelectOf
returns-in-SelectOf g c =
    by_there c.args.scene.now c.args.line.now.act (taken (setting c.args.scene.now.program.now) c.args.line.now.initial) c.args.place
    c.args.state.now c.select_of.new.state c.select_of.result (state_of g.W.Write.contents c.args.output.now)
    (i.SelectOf c.in-SelectOf.a0 c.in-SelectOf.a1 c.in-SelectOf.a2) c.in-SelectOf.is (c.select_of.ensures (taken (setting c.args.scene.now.program.now) c.args.line.now.initial) c.args.place)

pub returns-in-Subscript : goal.returns-in-Subscript
returns-in-Subscript g c =
    by_does c.args.scene.now c.args.line.now.act (taken (setting c.args.scene.now.program.now) c.args.line.now.initial) c.args.place
    c.args.state.now c.subscript.new.state c.subscript.result (state_of g.W.Write.contents c.args.output.now)
    i.Subscript c.in-Subscript.is c.subscript.ensures

pub returns-in-Limit : goal.returns-in-Limit
returns-in-Limit g c =
    by_does c.args.scene.now c.args.line.now.act (taken (setting c.args.scene.now.program.now) c.args.line.now.initial) c.args.place
    c.args.state.now c.limit.new.state c.limit.result (state_of g.W.Write.contents c.args.output.now)
    i.Limit c.in-Limit.is c.limit.ensures

pub returns-in-NoLimit : goal.returns-in-NoLimit
returns-in-NoLimit g c =
    by_does c.args.scene.now c.args.line.now.act (taken (setting c.args.scene.now.program.now) c.args.line.now.initial) c.args.place
    c.args.state.now c.no_limit.new.state c.no_limit.result (state_of g.W.Write.contents c.args.output.now)
    i.NoLimit c.in-NoLimit.is c.no_limit.ensures

pub returns-in-Triplet : goal.returns-in-Triplet
returns-in-Triplet g c =
    by_does c.args.scene.now c.args.line.now.act (taken (setting c.args.scene.now.program.now) c.args.line.now.initial) c.args.place
    c.args.state.now c.triplet.new.state c.triplet.result (state_of g.W.Write.contents c.args.output.now)
    i.Triplet c.in-Triplet.is c.triplet.ensures

pub returns-in-TestShape : goal.returns-in-TestShape
returns-in-TestShape g c =
    by_does c.args.scene.now c.args.line.now.act (taken (setting c.args.scene.now.program.now) c.args.line.now.initial) c.args.place
    c.args.state.now c.test_shape.new.state c.test_shape.result (state_of g.W.Write.contents c.args.output.now)
    i.TestShape c.in-TestShape.is c.test_shape.ensures

pub returns-in-ByState : goal.returns-in-ByState
returns-in-ByState g c =
    by_in c.args.scene.now c.args.line.now.act (taken (setting c.args.scene.now.program.now) c.args.line.now.initial) c.args.place
    c.args.state.now c.by_state.new.state c.by_state.result (state_of g.W.Write.contents c.args.output.now)
    (i.ByState c.in-ByState.a0 c.in-ByState.a1) c.len-total.result c.in-ByState.is (lines_are c.args.scene.now.emission.now.lines c.len-total.result c.len-total.ensures) c.by_state.ensures

pub returns-in-TestRank : goal.returns-in-TestRank
returns-in-TestRank g c =
    by_does c.args.scene.now c.args.line.now.act (taken (setting c.args.scene.now.program.now) c.args.line.now.initial) c.args.place
    c.args.state.now c.test_rank.new.state c.test_rank.result (state_of g.W.Write.contents c.args.output.now)
    (i.TestRank c.in-TestRank.a0) c.in-TestRank.is c.test_rank.ensures

pub returns-in-New : goal.returns-in-New
returns-in-New g c =
    by_there c.args.scene.now c.args.line.now.act (taken (setting c.args.scene.now.program.now) c.args.line.now.initial) c.args.place
    c.args.state.now c.new.new.state c.new.result (state_of g.W.Write.contents c.args.output.now)
    (i.New c.in-New.a0) c.in-New.is (c.new.ensures c.args.place)

pub returns-in-Take : goal.returns-in-Take
returns-in-Take g c =
    by_does c.args.scene.now c.args.line.now.act (taken (setting c.args.scene.now.program.now) c.args.line.now.initial) c.args.place
    c.args.state.now c.take.new.state c.take.result (state_of g.W.Write.contents c.args.output.now)
    (i.Take c.in-Take.a0) c.in-Take.is c.take.ensures

pub returns-in-Fill : goal.returns-in-Fill
returns-in-Fill g c =
    by_does c.args.scene.now c.args.line.now.act (taken (setting c.args.scene.now.program.now) c.args.line.now.initial) c.args.place
    c.args.state.now c.fill.new.state c.fill.result (state_of g.W.Write.contents c.args.output.now)
    (i.Fill c.in-Fill.a0) c.in-Fill.is c.fill.ensures

pub returns-in-Begin : goal.returns-in-Begin
returns-in-Begin g c =
    by_does c.args.scene.now c.args.line.now.act (taken (setting c.args.scene.now.program.now) c.args.line.now.initial) c.args.place
    c.args.state.now c.begin.new.state c.begin.result (state_of g.W.Write.contents c.args.output.now)
    i.Begin c.in-Begin.is c.begin.ensures

pub returns-in-Drop : goal.returns-in-Drop
returns-in-Drop g c =
    by_does c.args.scene.now c.args.line.now.act (taken (setting c.args.scene.now.program.now) c.args.line.now.initial) c.args.place
    c.args.state.now c.drop_top.new.state c.drop_top.result (state_of g.W.Write.contents c.args.output.now)
    i.Drop c.in-Drop.is c.drop_top.ensures

pub returns-in-Unwind : goal.returns-in-Unwind
returns-in-Unwind g c =
    by_does c.args.scene.now c.args.line.now.act (taken (setting c.args.scene.now.program.now) c.args.line.now.initial) c.args.place
    c.args.state.now c.unwind.new.state c.unwind.result (state_of g.W.Write.contents c.args.output.now)
    (i.Unwind c.in-Unwind.a0) c.in-Unwind.is c.unwind.ensures

pub returns-in-Swap : goal.returns-in-Swap
returns-in-Swap g c =
    by_does c.args.scene.now c.args.line.now.act (taken (setting c.args.scene.now.program.now) c.args.line.now.initial) c.args.place
    c.args.state.now c.swap.new.state c.swap.result (state_of g.W.Write.contents c.args.output.now)
    i.Swap c.in-Swap.is c.swap.ensures

pub returns-in-LendBoth : goal.returns-in-LendBoth
returns-in-LendBoth g c =
    by_does c.args.scene.now c.args.line.now.act (taken (setting c.args.scene.now.program.now) c.args.line.now.initial) c.args.place
    c.args.state.now c.lend_both.new.state c.lend_both.result (state_of g.W.Write.contents c.args.output.now)
    i.LendBoth c.in-LendBoth.is c.lend_both.ensures

pub returns-in-TakeOver : goal.returns-in-TakeOver
returns-in-TakeOver g c =
    by_at c.args.scene.now c.args.line.now.act (taken (setting c.args.scene.now.program.now) c.args.line.now.initial) c.args.place
    c.args.state.now c.take_over.new.state c.take_over.result (state_of g.W.Write.contents c.args.output.now)
    i.TakeOver c.in-TakeOver.is (c.take_over.ensures c.args.place)

pub returns-in-Dimension : goal.returns-in-Dimension
returns-in-Dimension g c =
    by_does c.args.scene.now c.args.line.now.act (taken (setting c.args.scene.now.program.now) c.args.line.now.initial) c.args.place
    c.args.state.now c.dimension.new.state c.dimension.result (state_of g.W.Write.contents c.args.output.now)
    i.Dimension c.in-Dimension.is c.dimension.ensures

pub returns-in-Allocate : goal.returns-in-Allocate
returns-in-Allocate g c =
    by_there c.args.scene.now c.args.line.now.act (taken (setting c.args.scene.now.program.now) c.args.line.now.initial) c.args.place
    c.args.state.now c.allocate.new.state c.allocate.result (state_of g.W.Write.contents c.args.output.now)
    (i.Allocate c.in-Allocate.a0 c.in-Allocate.a1) c.in-Allocate.is (c.allocate.ensures c.args.place)

pub returns-in-TestFree : goal.returns-in-TestFree
returns-in-TestFree g c =
    by_here c.args.scene.now c.args.line.now.act (taken (setting c.args.scene.now.program.now) c.args.line.now.initial) c.args.place
    c.args.state.now c.test_free.new.state c.test_free.result (state_of g.W.Write.contents c.args.output.now)
    (i.TestFree c.in-TestFree.a0) c.len-total.result c.in-TestFree.is (lines_are c.args.scene.now.emission.now.lines c.len-total.result c.len-total.ensures) c.test_free.ensures

pub returns-in-NoError : goal.returns-in-NoError
returns-in-NoError g c =
    by_does c.args.scene.now c.args.line.now.act (taken (setting c.args.scene.now.program.now) c.args.line.now.initial) c.args.place
    c.args.state.now c.no_error.new.state c.no_error.result (state_of g.W.Write.contents c.args.output.now)
    i.NoError c.in-NoError.is c.no_error.ensures

pub returns-in-SkipIfFailed : goal.returns-in-SkipIfFailed
returns-in-SkipIfFailed g c =
    by_in c.args.scene.now c.args.line.now.act (taken (setting c.args.scene.now.program.now) c.args.line.now.initial) c.args.place
    c.args.state.now c.skip_if_failed.new.state c.skip_if_failed.result (state_of g.W.Write.contents c.args.output.now)
    (i.SkipIfFailed c.in-SkipIfFailed.a0) c.len-total.result c.in-SkipIfFailed.is (lines_are c.args.scene.now.emission.now.lines c.len-total.result c.len-total.ensures) c.skip_if_failed.ensures

pub returns-in-Check : goal.returns-in-Check
returns-in-Check g c =
    by_does c.args.scene.now c.args.line.now.act (taken (setting c.args.scene.now.program.now) c.args.line.now.initial) c.args.place
    c.args.state.now c.check.new.state c.check.result (state_of g.W.Write.contents c.args.output.now)
    i.Check c.in-Check.is c.check.ensures

pub returns-in-StoreStatus : goal.returns-in-StoreStatus
returns-in-StoreStatus g c =
    by_does c.args.scene.now c.args.line.now.act (taken (setting c.args.scene.now.program.now) c.args.line.now.initial) c.args.place
    c.args.state.now c.store_status.new.state c.store_status.result (state_of g.W.Write.contents c.args.output.now)
    i.StoreStatus c.in-StoreStatus.is c.store_status.ensures

pub returns-in-PrintValue : goal.returns-in-PrintValue
returns-in-PrintValue g c =
    by_prints c.args.scene.now c.args.line.now.act (taken (setting c.args.scene.now.program.now) c.args.line.now.initial) c.args.place
    c.args.state.now c.print_value.new.state c.print_value.result (state_of g.W.Write.contents c.args.output.now) (state_of g.W.Write.contents c.print_value.new.output)
    i.PrintValue c.in-PrintValue.is c.print_value.ensures

pub returns-in-PrintByte : goal.returns-in-PrintByte
returns-in-PrintByte g c =
    by_prints c.args.scene.now c.args.line.now.act (taken (setting c.args.scene.now.program.now) c.args.line.now.initial) c.args.place
    c.args.state.now c.print_byte.new.state c.print_byte.result (state_of g.W.Write.contents c.args.output.now) (state_of g.W.Write.contents c.print_byte.new.output)
    (i.PrintByte c.in-PrintByte.a0) c.in-PrintByte.is c.print_byte.ensures

pub returns-in-Stop : goal.returns-in-Stop
returns-in-Stop g c =
    by_does c.args.scene.now c.args.line.now.act (taken (setting c.args.scene.now.program.now) c.args.line.now.initial) c.args.place
    c.args.state.now c.stop.new._state c.stop.result (state_of g.W.Write.contents c.args.output.now)
    (i.Stop c.in-Stop.a0) c.in-Stop.is c.stop.ensures

pub returns-in-SetPlace : goal.returns-in-SetPlace
returns-in-SetPlace g c =
    by_at c.args.scene.now c.args.line.now.act (taken (setting c.args.scene.now.program.now) c.args.line.now.initial) c.args.place
    c.args.state.now c.set_place.new.state c.set_place.result (state_of g.W.Write.contents c.args.output.now)
    i.SetPlace c.in-SetPlace.is c.set_place.ensures

pub returns-in-GoOn : goal.returns-in-GoOn
returns-in-GoOn g c =
    by_in c.args.scene.now c.args.line.now.act (taken (setting c.args.scene.now.program.now) c.args.line.now.initial) c.args.place
    c.args.state.now c.go_on.new.state c.go_on.result (state_of g.W.Write.contents c.args.output.now)
    (i.GoOn c.in-GoOn.a0) c.len-total.result c.in-GoOn.is (lines_are c.args.scene.now.emission.now.lines c.len-total.result c.len-total.ensures) c.go_on.ensures

pub returns-in-GoBack : goal.returns-in-GoBack
returns-in-GoBack g c =
    by_does c.args.scene.now c.args.line.now.act (taken (setting c.args.scene.now.program.now) c.args.line.now.initial) c.args.place
    c.args.state.now c.go_back.new.state c.go_back.result (state_of g.W.Write.contents c.args.output.now)
    (i.GoBack c.in-GoBack.a0) c.in-GoBack.is c.go_back.ensures

pub returns-in-SkipIfFalse : goal.returns-in-SkipIfFalse
returns-in-SkipIfFalse g c =
    by_in c.args.scene.now c.args.line.now.act (taken (setting c.args.scene.now.program.now) c.args.line.now.initial) c.args.place
    c.args.state.now c.skip_if_false.new.state c.skip_if_false.result (state_of g.W.Write.contents c.args.output.now)
    (i.SkipIfFalse c.in-SkipIfFalse.a0) c.len-total.result c.in-SkipIfFalse.is (lines_are c.args.scene.now.emission.now.lines c.len-total.result c.len-total.ensures) c.skip_if_false.ensures

pub returns-in-SkipIfTrue : goal.returns-in-SkipIfTrue
returns-in-SkipIfTrue g c =
    by_in c.args.scene.now c.args.line.now.act (taken (setting c.args.scene.now.program.now) c.args.line.now.initial) c.args.place
    c.args.state.now c.skip_if_true.new.state c.skip_if_true.result (state_of g.W.Write.contents c.args.output.now)
    (i.SkipIfTrue c.in-SkipIfTrue.a0) c.len-total.result c.in-SkipIfTrue.is (lines_are c.args.scene.now.emission.now.lines c.len-total.result c.len-total.ensures) c.skip_if_true.ensures

pub returns-in-Meets : goal.returns-in-Meets
returns-in-Meets g c =
    by_at c.args.scene.now c.args.line.now.act (taken (setting c.args.scene.now.program.now) c.args.line.now.initial) c.args.place
    c.args.state.now c.meets.new.state c.meets.result (state_of g.W.Write.contents c.args.output.now)
    (i.Meets c.in-Meets.a0) c.in-Meets.is (c.meets.ensures c.args.place)

pub returns-in-Selecting : goal.returns-in-Selecting
returns-in-Selecting g c =
    by_does c.args.scene.now c.args.line.now.act (taken (setting c.args.scene.now.program.now) c.args.line.now.initial) c.args.place
    c.args.state.now c.selecting.new.state c.selecting.result (state_of g.W.Write.contents c.args.output.now)
    i.Selecting c.in-Selecting.is c.selecting.ensures

pub returns-in-Leave : goal.returns-in-Leave
returns-in-Leave g c =
    by_in c.args.scene.now c.args.line.now.act (taken (setting c.args.scene.now.program.now) c.args.line.now.initial) c.args.place
    c.args.state.now c.leave.new.state c.leave.result (state_of g.W.Write.contents c.args.output.now)
    (i.Leave c.in-Leave.a0 c.in-Leave.a1) c.len-total.result c.in-Leave.is (lines_are c.args.scene.now.emission.now.lines c.len-total.result c.len-total.ensures) c.leave.ensures

pub returns-in-Depart : goal.returns-in-Depart
returns-in-Depart g c =
    by_in c.args.scene.now c.args.line.now.act (taken (setting c.args.scene.now.program.now) c.args.line.now.initial) c.args.place
    c.args.state.now c.depart.new.state c.depart.result (state_of g.W.Write.contents c.args.output.now)
    (i.Depart c.in-Depart.a0 c.in-Depart.a1) c.len-total.result c.in-Depart.is (lines_are c.args.scene.now.emission.now.lines c.len-total.result c.len-total.ensures) c.depart.ensures

pub returns-in-SelectVariable : goal.returns-in-SelectVariable
returns-in-SelectVariable g c =
    by_does c.args.scene.now c.args.line.now.act (taken (setting c.args.scene.now.program.now) c.args.line.now.initial) c.args.place
    c.args.state.now c.select_variable.new.state c.select_variable.result (state_of g.W.Write.contents c.args.output.now)
    i.SelectVariable c.in-SelectVariable.is c.select_variable.ensures

pub returns-in-SelectValue : goal.returns-in-SelectValue
returns-in-SelectValue g c =
    by_does c.args.scene.now c.args.line.now.act (taken (setting c.args.scene.now.program.now) c.args.line.now.initial) c.args.place
    c.args.state.now c.select_value.new.state c.select_value.result (state_of g.W.Write.contents c.args.output.now)
    (i.SelectValue c.in-SelectValue.a0) c.in-SelectValue.is c.select_value.ensures

pub returns-in-Associate : goal.returns-in-Associate
returns-in-Associate g c =
    by_there c.args.scene.now c.args.line.now.act (taken (setting c.args.scene.now.program.now) c.args.line.now.initial) c.args.place
    c.args.state.now c.associate.new.state c.associate.result (state_of g.W.Write.contents c.args.output.now)
    (i.Associate c.in-Associate.a0) c.in-Associate.is (c.associate.ensures c.args.scene.now (taken (setting c.args.scene.now.program.now) c.args.line.now.initial) c.args.place)

pub returns-in-Associated : goal.returns-in-Associated
returns-in-Associated g c =
    by_does c.args.scene.now c.args.line.now.act (taken (setting c.args.scene.now.program.now) c.args.line.now.initial) c.args.place
    c.args.state.now c.associated.new.state c.associated.result (state_of g.W.Write.contents c.args.output.now)
    i.Associated c.in-Associated.is c.associated.ensures

pub returns-in-NextObject : goal.returns-in-NextObject
returns-in-NextObject g c =
    by_in c.args.scene.now c.args.line.now.act (taken (setting c.args.scene.now.program.now) c.args.line.now.initial) c.args.place
    c.args.state.now c.next_object.new.state c.next_object.result (state_of g.W.Write.contents c.args.output.now)
    (i.NextObject c.in-NextObject.a0) c.len-total.result c.in-NextObject.is (lines_are c.args.scene.now.emission.now.lines c.len-total.result c.len-total.ensures) c.next_object.ensures

pub returns-in-EndAssociate : goal.returns-in-EndAssociate
returns-in-EndAssociate g c =
    by_does c.args.scene.now c.args.line.now.act (taken (setting c.args.scene.now.program.now) c.args.line.now.initial) c.args.place
    c.args.state.now c.end_associate.new.state c.end_associate.result (state_of g.W.Write.contents c.args.output.now)
    i.EndAssociate c.in-EndAssociate.is c.end_associate.ensures

pub returns-in-Convert : goal.returns-in-Convert
returns-in-Convert g c =
    by_does c.args.scene.now c.args.line.now.act (taken (setting c.args.scene.now.program.now) c.args.line.now.initial) c.args.place
    c.args.state.now c.convert.new.state c.convert.result (state_of g.W.Write.contents c.args.output.now)
    (i.Convert c.in-Convert.a0) c.in-Convert.is c.convert.ensures

pub returns-in-TestStep : goal.returns-in-TestStep
returns-in-TestStep g c =
    by_does c.args.scene.now c.args.line.now.act (taken (setting c.args.scene.now.program.now) c.args.line.now.initial) c.args.place
    c.args.state.now c.test_step.new.state c.test_step.result (state_of g.W.Write.contents c.args.output.now)
    i.TestStep c.in-TestStep.is c.test_step.ensures

pub returns-in-CountBegin : goal.returns-in-CountBegin
returns-in-CountBegin g c =
    by_does c.args.scene.now c.args.line.now.act (taken (setting c.args.scene.now.program.now) c.args.line.now.initial) c.args.place
    c.args.state.now c.count_begin.new.state c.count_begin.result (state_of g.W.Write.contents c.args.output.now)
    i.CountBegin c.in-CountBegin.is c.count_begin.ensures

pub returns-in-CountNext : goal.returns-in-CountNext
returns-in-CountNext g c =
    by_in c.args.scene.now c.args.line.now.act (taken (setting c.args.scene.now.program.now) c.args.line.now.initial) c.args.place
    c.args.state.now c.count_next.new.state c.count_next.result (state_of g.W.Write.contents c.args.output.now)
    (i.CountNext c.in-CountNext.a0) c.len-total.result c.in-CountNext.is (lines_are c.args.scene.now.emission.now.lines c.len-total.result c.len-total.ensures) c.count_next.ensures

pub returns-in-CountUp : goal.returns-in-CountUp
returns-in-CountUp g c =
    by_does c.args.scene.now c.args.line.now.act (taken (setting c.args.scene.now.program.now) c.args.line.now.initial) c.args.place
    c.args.state.now c.count_up.new.state c.count_up.result (state_of g.W.Write.contents c.args.output.now)
    (i.CountUp c.in-CountUp.a0) c.in-CountUp.is c.count_up.ensures

pub returns-in-Lend : goal.returns-in-Lend
returns-in-Lend g c =
    by_does c.args.scene.now c.args.line.now.act (taken (setting c.args.scene.now.program.now) c.args.line.now.initial) c.args.place
    c.args.state.now c.lend.new.state c.lend.result (state_of g.W.Write.contents c.args.output.now)
    i.Lend c.in-Lend.is c.lend.ensures

pub returns-in-Unlend : goal.returns-in-Unlend
returns-in-Unlend g c =
    by_does c.args.scene.now c.args.line.now.act (taken (setting c.args.scene.now.program.now) c.args.line.now.initial) c.args.place
    c.args.state.now c.unlend.new.state c.unlend.result (state_of g.W.Write.contents c.args.output.now)
    i.Unlend c.in-Unlend.is c.unlend.ensures

pub returns-in-SkipUnlessRank : goal.returns-in-SkipUnlessRank
returns-in-SkipUnlessRank g c =
    by_in c.args.scene.now c.args.line.now.act (taken (setting c.args.scene.now.program.now) c.args.line.now.initial) c.args.place
    c.args.state.now c.skip_unless_rank.new.state c.skip_unless_rank.result (state_of g.W.Write.contents c.args.output.now)
    (i.SkipUnlessRank c.in-SkipUnlessRank.a0 c.in-SkipUnlessRank.a1) c.len-total.result c.in-SkipUnlessRank.is (lines_are c.args.scene.now.emission.now.lines c.len-total.result c.len-total.ensures) c.skip_unless_rank.ensures

pub returns-in-PassObject : goal.returns-in-PassObject
returns-in-PassObject g c =
    by_does c.args.scene.now c.args.line.now.act (taken (setting c.args.scene.now.program.now) c.args.line.now.initial) c.args.place
    c.args.state.now c.pass_object.new.state c.pass_object.result (state_of g.W.Write.contents c.args.output.now)
    i.PassObject c.in-PassObject.is c.pass_object.ensures

pub returns-in-Routine : goal.returns-in-Routine
returns-in-Routine g c =
    by_there c.args.scene.now c.args.line.now.act (taken (setting c.args.scene.now.program.now) c.args.line.now.initial) c.args.place
    c.args.state.now c.routine.new.state c.routine.result (state_of g.W.Write.contents c.args.output.now)
    (i.Routine c.in-Routine.a0) c.in-Routine.is (c.routine.ensures (taken (setting c.args.scene.now.program.now) c.args.line.now.initial))

pub returns-in-Back : goal.returns-in-Back
returns-in-Back g c =
    by_does c.args.scene.now c.args.line.now.act (taken (setting c.args.scene.now.program.now) c.args.line.now.initial) c.args.place
    c.args.state.now c.back.new.state c.back.result (state_of g.W.Write.contents c.args.output.now)
    i.Back c.in-Back.is c.back.ensures

pub returns-in-WorkComponent : goal.returns-in-WorkComponent
returns-in-WorkComponent g c =
    by_there c.args.scene.now c.args.line.now.act (taken (setting c.args.scene.now.program.now) c.args.line.now.initial) c.args.place
    c.args.state.now c.work_component.new.state c.work_component.result (state_of g.W.Write.contents c.args.output.now)
    (i.WorkComponent c.in-WorkComponent.a0) c.in-WorkComponent.is (c.work_component.ensures c.args.place)

pub returns-in-WalkBegin : goal.returns-in-WalkBegin
returns-in-WalkBegin g c =
    by_does c.args.scene.now c.args.line.now.act (taken (setting c.args.scene.now.program.now) c.args.line.now.initial) c.args.place
    c.args.state.now c.walk_begin.new.state c.walk_begin.result (state_of g.W.Write.contents c.args.output.now)
    i.WalkBegin c.in-WalkBegin.is c.walk_begin.ensures

pub returns-in-WalkNext : goal.returns-in-WalkNext
returns-in-WalkNext g c =
    by_in c.args.scene.now c.args.line.now.act (taken (setting c.args.scene.now.program.now) c.args.line.now.initial) c.args.place
    c.args.state.now c.walk_next.new.state c.walk_next.result (state_of g.W.Write.contents c.args.output.now)
    (i.WalkNext c.in-WalkNext.a0) c.len-total.result c.in-WalkNext.is (lines_are c.args.scene.now.emission.now.lines c.len-total.result c.len-total.ensures) c.walk_next.ensures

pub returns-in-SkipUnlessAllocated : goal.returns-in-SkipUnlessAllocated
returns-in-SkipUnlessAllocated g c =
    by_in c.args.scene.now c.args.line.now.act (taken (setting c.args.scene.now.program.now) c.args.line.now.initial) c.args.place
    c.args.state.now c.skip_unless_allocated.new.state c.skip_unless_allocated.result (state_of g.W.Write.contents c.args.output.now)
    (i.SkipUnlessAllocated c.in-SkipUnlessAllocated.a0) c.len-total.result c.in-SkipUnlessAllocated.is (lines_are c.args.scene.now.emission.now.lines c.len-total.result c.len-total.ensures) c.skip_unless_allocated.ensures

pub returns-in-OpenContents : goal.returns-in-OpenContents
returns-in-OpenContents g c =
    by_at c.args.scene.now c.args.line.now.act (taken (setting c.args.scene.now.program.now) c.args.line.now.initial) c.args.place
    c.args.state.now c.open_contents.new.state c.open_contents.result (state_of g.W.Write.contents c.args.output.now)
    i.OpenContents c.in-OpenContents.is (c.open_contents.ensures c.args.place)

pub returns-in-Free : goal.returns-in-Free
returns-in-Free g c =
    by_does c.args.scene.now c.args.line.now.act (taken (setting c.args.scene.now.program.now) c.args.line.now.initial) c.args.place
    c.args.state.now c.free.new.state c.free.result (state_of g.W.Write.contents c.args.output.now)
    i.Free c.in-Free.is c.free.ensures

pub returns-in-Clear : goal.returns-in-Clear
returns-in-Clear g c =
    by_does c.args.scene.now c.args.line.now.act (taken (setting c.args.scene.now.program.now) c.args.line.now.initial) c.args.place
    c.args.state.now c.clear.new.state c.clear.result (state_of g.W.Write.contents c.args.output.now)
    i.Clear c.in-Clear.is c.clear.ensures

pub returns-in-Set : goal.returns-in-Set
returns-in-Set g c =
    by_there c.args.scene.now c.args.line.now.act (taken (setting c.args.scene.now.program.now) c.args.line.now.initial) c.args.place
    c.args.state.now c.set.new.state c.set.result (state_of g.W.Write.contents c.args.output.now)
    i.Set c.in-Set.is (c.set.ensures c.args.place)

pub returns-in-Discard : goal.returns-in-Discard
returns-in-Discard g c =
    by_does c.args.scene.now c.args.line.now.act (taken (setting c.args.scene.now.program.now) c.args.line.now.initial) c.args.place
    c.args.state.now c.discard.new.state c.discard.result (state_of g.W.Write.contents c.args.output.now)
    i.Discard c.in-Discard.is c.discard.ensures

pub returns-in-Dummies : goal.returns-in-Dummies
returns-in-Dummies g c =
    by_does c.args.scene.now c.args.line.now.act (taken (setting c.args.scene.now.program.now) c.args.line.now.initial) c.args.place
    c.args.state.now c.dummies.new.state c.dummies.result (state_of g.W.Write.contents c.args.output.now)
    i.Dummies c.in-Dummies.is c.dummies.ensures

pub returns-in-ResultOf : goal.returns-in-ResultOf
returns-in-ResultOf g c =
    by_does c.args.scene.now c.args.line.now.act (taken (setting c.args.scene.now.program.now) c.args.line.now.initial) c.args.place
    c.args.state.now c.result_of.new.state c.result_of.result (state_of g.W.Write.contents c.args.output.now)
    (i.ResultOf c.in-ResultOf.a0) c.in-ResultOf.is c.result_of.ensures

pub returns-in-Outward : goal.returns-in-Outward
returns-in-Outward g c =
    by_does c.args.scene.now c.args.line.now.act (taken (setting c.args.scene.now.program.now) c.args.line.now.initial) c.args.place
    c.args.state.now c.outward.new.state c.outward.result (state_of g.W.Write.contents c.args.output.now)
    i.Outward c.in-Outward.is c.outward.ensures

pub returns-in-NextArgument : goal.returns-in-NextArgument
returns-in-NextArgument g c =
    by_in c.args.scene.now c.args.line.now.act (taken (setting c.args.scene.now.program.now) c.args.line.now.initial) c.args.place
    c.args.state.now c.next_argument.new.state c.next_argument.result (state_of g.W.Write.contents c.args.output.now)
    (i.NextArgument c.in-NextArgument.a0 c.in-NextArgument.a1) c.len-total.result c.in-NextArgument.is (lines_are c.args.scene.now.emission.now.lines c.len-total.result c.len-total.ensures) c.next_argument.ensures

pub returns-in-Return : goal.returns-in-Return
returns-in-Return g c =
    by_does c.args.scene.now c.args.line.now.act (taken (setting c.args.scene.now.program.now) c.args.line.now.initial) c.args.place
    c.args.state.now c.return_to_caller.new.state c.return_to_caller.result (state_of g.W.Write.contents c.args.output.now)
    i.Return c.in-Return.is c.return_to_caller.ensures

pub returns-in-Finish : goal.returns-in-Finish
returns-in-Finish g c =
    by_does c.args.scene.now c.args.line.now.act (taken (setting c.args.scene.now.program.now) c.args.line.now.initial) c.args.place
    c.args.state.now c.finish.new._state c.finish.result (state_of g.W.Write.contents c.args.output.now)
    i.Finish c.in-Finish.is c.finish.ensures
