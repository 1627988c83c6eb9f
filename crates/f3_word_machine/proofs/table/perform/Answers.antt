use Rattle.std.proofs.Common.{◌≡◌, true, subst, sym, refl, arith, inl}
use Rattle.std.proofs.lemmas.Bool.{true≢false}
use Rattle.f3_code.specs.declared.instruction.Instruction.{Instruction}
use Rattle.f3_code.specs.declared.instruction.Instruction.TheVariants as i
use Rattle.f3_output.specs.Output.{state_of}
use Rattle.f3_word_cells.specs.Does.{HasNoMemory, HasNoRoom, IsAt}
use Rattle.f3_word_cells.specs.Plain.{is_plain_act}
use Rattle.f3_word_steps.specs.Cells.{is_cells_act}
use Rattle.f3_word_machine.specs.Room.{HasRoomFor}
use Rattle.f3_word_machine.proofs.Doing.{by_in, by_with, by_prints, by_over, by_over_at, by_cells, keeps_room, lines_are, plain_at}
use Rattle.f3_word_machine.proofs.table.perform.Goals as goal

pub returns-in-BoundsOfValue-clause-does : goal.returns-in-BoundsOfValue-clause-does
returns-in-BoundsOfValue-clause-does g c = by_with (HasNoRoom g.B.Blocks.has_room c.args.heap.now) (HasNoMemory g.B.Blocks.allows (g.B.Blocks.kept c.args.heap.now) (g.B.Blocks.blocks c.args.heap.now)) c.args.scene.program.now c.args.act c.args.place c.args.state.now c.bounds_of_value.new.state c.bounds_of_value.result (g.B.Blocks.blocks c.args.heap.now) (g.B.Blocks.blocks c.bounds_of_value.new.heap) (state_of g.W.Write.contents c.args.output.now) i.BoundsOfValue c.in-BoundsOfValue.is c.bounds_of_value.ensures.does

pub bounds_of_value-requires-clause-at : goal.bounds_of_value-requires-clause-at
bounds_of_value-requires-clause-at g c = (c.args.scene.program.now, subst (λ x. IsAt c.args.scene.program.now x (g.B.Blocks.blocks c.args.heap.now) c.args.state.now) c.in-BoundsOfValue.is c.requires.at)

pub returns-in-Load-clause-does : goal.returns-in-Load-clause-does
returns-in-Load-clause-does g c = by_over (HasNoRoom g.B.Blocks.has_room c.args.heap.now) (HasNoMemory g.B.Blocks.allows (g.B.Blocks.kept c.args.heap.now) (g.B.Blocks.blocks c.args.heap.now)) c.args.scene.program.now c.args.act c.args.place c.args.state.now c.load.new.state c.load.result (g.B.Blocks.blocks c.args.heap.now) (g.B.Blocks.blocks c.load.new.heap) (state_of g.W.Write.contents c.args.output.now) i.Load c.in-Load.is c.load.ensures.does

pub load-requires-clause-at : goal.load-requires-clause-at
load-requires-clause-at g c = subst (λ x. IsAt c.args.scene.program.now x (g.B.Blocks.blocks c.args.heap.now) c.args.state.now) c.in-Load.is c.requires.at

pub returns-in-Refer-clause-does : goal.returns-in-Refer-clause-does
returns-in-Refer-clause-does g c = by_in (HasNoRoom g.B.Blocks.has_room c.args.heap.now) (HasNoMemory g.B.Blocks.allows (g.B.Blocks.kept c.args.heap.now) (g.B.Blocks.blocks c.args.heap.now)) c.args.scene.program.now c.args.act c.args.place c.args.state.now c.refer.new.state c.refer.result (g.B.Blocks.blocks c.args.heap.now) (g.B.Blocks.blocks c.args.heap.now) (state_of g.W.Write.contents c.args.output.now) (i.Refer c.in-Refer.a0) c.in-Refer.is (c.refer.ensures.does (g.B.Blocks.blocks c.args.heap.now))

pub returns-in-Component-clause-does : goal.returns-in-Component-clause-does
returns-in-Component-clause-does g c = by_in (HasNoRoom g.B.Blocks.has_room c.args.heap.now) (HasNoMemory g.B.Blocks.allows (g.B.Blocks.kept c.args.heap.now) (g.B.Blocks.blocks c.args.heap.now)) c.args.scene.program.now c.args.act c.args.place c.args.state.now c.component.new.state c.component.result (g.B.Blocks.blocks c.args.heap.now) (g.B.Blocks.blocks c.args.heap.now) (state_of g.W.Write.contents c.args.output.now) (i.Component c.in-Component.a0) c.in-Component.is (c.component.ensures.does (g.B.Blocks.blocks c.args.heap.now) c.requires.short)

pub returns-in-Select-clause-does : goal.returns-in-Select-clause-does
returns-in-Select-clause-does g c = by_in (HasNoRoom g.B.Blocks.has_room c.args.heap.now) (HasNoMemory g.B.Blocks.allows (g.B.Blocks.kept c.args.heap.now) (g.B.Blocks.blocks c.args.heap.now)) c.args.scene.program.now c.args.act c.args.place c.args.state.now c.select.new.state c.select.result (g.B.Blocks.blocks c.args.heap.now) (g.B.Blocks.blocks c.args.heap.now) (state_of g.W.Write.contents c.args.output.now) (i.Select c.in-Select.a0 c.in-Select.a1) c.in-Select.is (c.select.ensures.does c.args.scene.program.now (g.B.Blocks.blocks c.args.heap.now) c.requires.short)

pub returns-in-ComponentOf-clause-does : goal.returns-in-ComponentOf-clause-does
returns-in-ComponentOf-clause-does g c = by_in (HasNoRoom g.B.Blocks.has_room c.args.heap.now) (HasNoMemory g.B.Blocks.allows (g.B.Blocks.kept c.args.heap.now) (g.B.Blocks.blocks c.args.heap.now)) c.args.scene.program.now c.args.act c.args.place c.args.state.now c.component_beside.new.state c.component_beside.result (g.B.Blocks.blocks c.args.heap.now) (g.B.Blocks.blocks c.args.heap.now) (state_of g.W.Write.contents c.args.output.now) (i.ComponentOf c.in-ComponentOf.a0) c.in-ComponentOf.is (c.component_beside.ensures.does (g.B.Blocks.blocks c.args.heap.now) c.requires.short)

pub returns-in-SelectOf-clause-does : goal.returns-in-SelectOf-clause-does
returns-in-SelectOf-clause-does g c = by_in (HasNoRoom g.B.Blocks.has_room c.args.heap.now) (HasNoMemory g.B.Blocks.allows (g.B.Blocks.kept c.args.heap.now) (g.B.Blocks.blocks c.args.heap.now)) c.args.scene.program.now c.args.act c.args.place c.args.state.now c.select_of.new.state c.select_of.result (g.B.Blocks.blocks c.args.heap.now) (g.B.Blocks.blocks c.args.heap.now) (state_of g.W.Write.contents c.args.output.now) (i.SelectOf c.in-SelectOf.a0 c.in-SelectOf.a1 c.in-SelectOf.a2) c.in-SelectOf.is (c.select_of.ensures.does (g.B.Blocks.blocks c.args.heap.now) c.requires.short)

pub returns-in-Selecting-clause-does : goal.returns-in-Selecting-clause-does
returns-in-Selecting-clause-does g c = by_with (HasNoRoom g.B.Blocks.has_room c.args.heap.now) (HasNoMemory g.B.Blocks.allows (g.B.Blocks.kept c.args.heap.now) (g.B.Blocks.blocks c.args.heap.now)) c.args.scene.program.now c.args.act c.args.place c.args.state.now c.selecting.new.state c.selecting.result (g.B.Blocks.blocks c.args.heap.now) (g.B.Blocks.blocks c.selecting.new.heap) (state_of g.W.Write.contents c.args.output.now) i.Selecting c.in-Selecting.is c.selecting.ensures.does

pub selecting-requires-clause-at : goal.selecting-requires-clause-at
selecting-requires-clause-at g c = (c.args.scene.program.now, subst (λ x. IsAt c.args.scene.program.now x (g.B.Blocks.blocks c.args.heap.now) c.args.state.now) c.in-Selecting.is c.requires.at)

pub returns-in-Set-clause-does : goal.returns-in-Set-clause-does
returns-in-Set-clause-does g c = by_in (HasNoRoom g.B.Blocks.has_room c.args.heap.now) (HasNoMemory g.B.Blocks.allows (g.B.Blocks.kept c.args.heap.now) (g.B.Blocks.blocks c.args.heap.now)) c.args.scene.program.now c.args.act c.args.place c.args.state.now c.set.new.state c.set.result (g.B.Blocks.blocks c.args.heap.now) (g.B.Blocks.blocks c.set.new.heap) (state_of g.W.Write.contents c.args.output.now) i.Set c.in-Set.is c.set.ensures.does

pub set-requires-clause-at : goal.set-requires-clause-at
set-requires-clause-at g c = subst (λ x. IsAt c.args.scene.program.now x (g.B.Blocks.blocks c.args.heap.now) c.args.state.now) c.in-Set.is c.requires.at

pub returns-in-Take-clause-does : goal.returns-in-Take-clause-does
returns-in-Take-clause-does g c = by_in (HasNoRoom g.B.Blocks.has_room c.args.heap.now) (HasNoMemory g.B.Blocks.allows (g.B.Blocks.kept c.args.heap.now) (g.B.Blocks.blocks c.args.heap.now)) c.args.scene.program.now c.args.act c.args.place c.args.state.now c.take.new.state c.take.result (g.B.Blocks.blocks c.args.heap.now) (g.B.Blocks.blocks c.take.new.heap) (state_of g.W.Write.contents c.args.output.now) (i.Take c.in-Take.a0) c.in-Take.is c.take.ensures.does

pub take-requires-clause-at : goal.take-requires-clause-at
take-requires-clause-at g c = subst (λ x. IsAt c.args.scene.program.now x (g.B.Blocks.blocks c.args.heap.now) c.args.state.now) c.in-Take.is c.requires.at

pub returns-in-Fill-clause-does : goal.returns-in-Fill-clause-does
returns-in-Fill-clause-does g c = by_in (HasNoRoom g.B.Blocks.has_room c.args.heap.now) (HasNoMemory g.B.Blocks.allows (g.B.Blocks.kept c.args.heap.now) (g.B.Blocks.blocks c.args.heap.now)) c.args.scene.program.now c.args.act c.args.place c.args.state.now c.fill.new.state c.fill.result (g.B.Blocks.blocks c.args.heap.now) (g.B.Blocks.blocks c.fill.new.heap) (state_of g.W.Write.contents c.args.output.now) (i.Fill c.in-Fill.a0) c.in-Fill.is c.fill.ensures.does

pub fill-requires-clause-at : goal.fill-requires-clause-at
fill-requires-clause-at g c = subst (λ x. IsAt c.args.scene.program.now x (g.B.Blocks.blocks c.args.heap.now) c.args.state.now) c.in-Fill.is c.requires.at

pub returns-in-Drop-clause-does : goal.returns-in-Drop-clause-does
returns-in-Drop-clause-does g c = by_with (HasNoRoom g.B.Blocks.has_room c.args.heap.now) (HasNoMemory g.B.Blocks.allows (g.B.Blocks.kept c.args.heap.now) (g.B.Blocks.blocks c.args.heap.now)) c.args.scene.program.now c.args.act c.args.place c.args.state.now c.drop_top.new.state c.drop_top.result (g.B.Blocks.blocks c.args.heap.now) (g.B.Blocks.blocks c.drop_top.new.heap) (state_of g.W.Write.contents c.args.output.now) i.Drop c.in-Drop.is c.drop_top.ensures.does

pub drop_top-requires-clause-at : goal.drop_top-requires-clause-at
drop_top-requires-clause-at g c = (c.args.scene.program.now, subst (λ x. IsAt c.args.scene.program.now x (g.B.Blocks.blocks c.args.heap.now) c.args.state.now) c.in-Drop.is c.requires.at)

pub returns-in-Unwind-clause-does : goal.returns-in-Unwind-clause-does
returns-in-Unwind-clause-does g c = by_with (HasNoRoom g.B.Blocks.has_room c.args.heap.now) (HasNoMemory g.B.Blocks.allows (g.B.Blocks.kept c.args.heap.now) (g.B.Blocks.blocks c.args.heap.now)) c.args.scene.program.now c.args.act c.args.place c.args.state.now c.unwind.new.state c.unwind.result (g.B.Blocks.blocks c.args.heap.now) (g.B.Blocks.blocks c.unwind.new.heap) (state_of g.W.Write.contents c.args.output.now) (i.Unwind c.in-Unwind.a0) c.in-Unwind.is c.unwind.ensures.does

pub unwind-requires-clause-at : goal.unwind-requires-clause-at
unwind-requires-clause-at g c = (c.args.scene.program.now, subst (λ x. IsAt c.args.scene.program.now x (g.B.Blocks.blocks c.args.heap.now) c.args.state.now) c.in-Unwind.is c.requires.at)

pub returns-in-PrintValue-clause-does : goal.returns-in-PrintValue-clause-does
returns-in-PrintValue-clause-does g c = by_prints (HasNoRoom g.B.Blocks.has_room c.args.heap.now) (HasNoMemory g.B.Blocks.allows (g.B.Blocks.kept c.args.heap.now) (g.B.Blocks.blocks c.args.heap.now)) c.args.scene.program.now c.args.act c.args.place c.args.state.now c.print_value.new.state c.print_value.result (g.B.Blocks.blocks c.args.heap.now) (g.B.Blocks.blocks c.print_value.new.heap) (state_of g.W.Write.contents c.args.output.now) (state_of g.W.Write.contents c.print_value.new.output) i.PrintValue c.in-PrintValue.is c.print_value.ensures.does

pub print_value-requires-clause-at : goal.print_value-requires-clause-at
print_value-requires-clause-at g c = (c.args.scene.program.now, subst (λ x. IsAt c.args.scene.program.now x (g.B.Blocks.blocks c.args.heap.now) c.args.state.now) c.in-PrintValue.is c.requires.at)

pub returns-in-PrintByte-clause-does : goal.returns-in-PrintByte-clause-does
returns-in-PrintByte-clause-does g c = by_prints (HasNoRoom g.B.Blocks.has_room c.args.heap.now) (HasNoMemory g.B.Blocks.allows (g.B.Blocks.kept c.args.heap.now) (g.B.Blocks.blocks c.args.heap.now)) c.args.scene.program.now c.args.act c.args.place c.args.state.now c.print_byte.new.state c.print_byte.result (g.B.Blocks.blocks c.args.heap.now) (g.B.Blocks.blocks c.args.heap.now) (state_of g.W.Write.contents c.args.output.now) (state_of g.W.Write.contents c.print_byte.new.output) (i.PrintByte c.in-PrintByte.a0) c.in-PrintByte.is (c.print_byte.ensures.does (g.B.Blocks.blocks c.args.heap.now))

pub returns-in-EndAssociate-clause-does : goal.returns-in-EndAssociate-clause-does
returns-in-EndAssociate-clause-does g c = by_with (HasNoRoom g.B.Blocks.has_room c.args.heap.now) (HasNoMemory g.B.Blocks.allows (g.B.Blocks.kept c.args.heap.now) (g.B.Blocks.blocks c.args.heap.now)) c.args.scene.program.now c.args.act c.args.place c.args.state.now c.end_associate.new.state c.end_associate.result (g.B.Blocks.blocks c.args.heap.now) (g.B.Blocks.blocks c.end_associate.new.heap) (state_of g.W.Write.contents c.args.output.now) i.EndAssociate c.in-EndAssociate.is c.end_associate.ensures.does

pub end_associate-requires-clause-at : goal.end_associate-requires-clause-at
end_associate-requires-clause-at g c = (c.args.scene.program.now, subst (λ x. IsAt c.args.scene.program.now x (g.B.Blocks.blocks c.args.heap.now) c.args.state.now) c.in-EndAssociate.is c.requires.at)

pub returns-in-CountBegin-clause-does : goal.returns-in-CountBegin-clause-does
returns-in-CountBegin-clause-does g c = by_in (HasNoRoom g.B.Blocks.has_room c.args.heap.now) (HasNoMemory g.B.Blocks.allows (g.B.Blocks.kept c.args.heap.now) (g.B.Blocks.blocks c.args.heap.now)) c.args.scene.program.now c.args.act c.args.place c.args.state.now c.count_begin.new.state c.count_begin.result (g.B.Blocks.blocks c.args.heap.now) (g.B.Blocks.blocks c.count_begin.new.heap) (state_of g.W.Write.contents c.args.output.now) i.CountBegin c.in-CountBegin.is c.count_begin.ensures.does

pub count_begin-requires-clause-at : goal.count_begin-requires-clause-at
count_begin-requires-clause-at g c = subst (λ x. IsAt c.args.scene.program.now x (g.B.Blocks.blocks c.args.heap.now) c.args.state.now) c.in-CountBegin.is c.requires.at

pub returns-in-CountUp-clause-does : goal.returns-in-CountUp-clause-does
returns-in-CountUp-clause-does g c = by_in (HasNoRoom g.B.Blocks.has_room c.args.heap.now) (HasNoMemory g.B.Blocks.allows (g.B.Blocks.kept c.args.heap.now) (g.B.Blocks.blocks c.args.heap.now)) c.args.scene.program.now c.args.act c.args.place c.args.state.now c.count_up.new.state c.count_up.result (g.B.Blocks.blocks c.args.heap.now) (g.B.Blocks.blocks c.count_up.new.heap) (state_of g.W.Write.contents c.args.output.now) (i.CountUp c.in-CountUp.a0) c.in-CountUp.is c.count_up.ensures.does

pub count_up-requires-clause-at : goal.count_up-requires-clause-at
count_up-requires-clause-at g c = subst (λ x. IsAt c.args.scene.program.now x (g.B.Blocks.blocks c.args.heap.now) c.args.state.now) c.in-CountUp.is c.requires.at

pub returns-in-Return-clause-does : goal.returns-in-Return-clause-does
returns-in-Return-clause-does g c = by_with (HasNoRoom g.B.Blocks.has_room c.args.heap.now) (HasNoMemory g.B.Blocks.allows (g.B.Blocks.kept c.args.heap.now) (g.B.Blocks.blocks c.args.heap.now)) c.args.scene.program.now c.args.act c.args.place c.args.state.now c.return_to_caller.new.state c.return_to_caller.result (g.B.Blocks.blocks c.args.heap.now) (g.B.Blocks.blocks c.return_to_caller.new.heap) (state_of g.W.Write.contents c.args.output.now) i.Return c.in-Return.is c.return_to_caller.ensures.does

pub return_to_caller-requires-clause-at : goal.return_to_caller-requires-clause-at
return_to_caller-requires-clause-at g c = (c.args.scene.program.now, subst (λ x. IsAt c.args.scene.program.now x (g.B.Blocks.blocks c.args.heap.now) c.args.state.now) c.in-Return.is c.requires.at)

pub returns-in-Array-clause-does : goal.returns-in-Array-clause-does
returns-in-Array-clause-does g c = by_over (HasNoRoom g.B.Blocks.has_room c.args.heap.now) (HasNoMemory g.B.Blocks.allows (g.B.Blocks.kept c.args.heap.now) (g.B.Blocks.blocks c.args.heap.now)) c.args.scene.program.now c.args.act c.args.place c.args.state.now c.array.new.state c.array.result (g.B.Blocks.blocks c.args.heap.now) (g.B.Blocks.blocks c.array.new.heap) (state_of g.W.Write.contents c.args.output.now) (i.Array c.in-Array.a0) c.in-Array.is c.array.ensures.does

pub array-requires-clause-at : goal.array-requires-clause-at
array-requires-clause-at g c = subst (λ x. IsAt c.args.scene.program.now x (g.B.Blocks.blocks c.args.heap.now) c.args.state.now) c.in-Array.is c.requires.at

pub returns-in-Structure-clause-does : goal.returns-in-Structure-clause-does
returns-in-Structure-clause-does g c = by_over (HasNoRoom g.B.Blocks.has_room c.args.heap.now) (HasNoMemory g.B.Blocks.allows (g.B.Blocks.kept c.args.heap.now) (g.B.Blocks.blocks c.args.heap.now)) c.args.scene.program.now c.args.act c.args.place c.args.state.now c.structure.new.state c.structure.result (g.B.Blocks.blocks c.args.heap.now) (g.B.Blocks.blocks c.structure.new.heap) (state_of g.W.Write.contents c.args.output.now) (i.Structure c.in-Structure.a0 c.in-Structure.a1) c.in-Structure.is c.structure.ensures.does

pub structure-requires-clause-at : goal.structure-requires-clause-at
structure-requires-clause-at g c = subst (λ x. IsAt c.args.scene.program.now x (g.B.Blocks.blocks c.args.heap.now) c.args.state.now) c.in-Structure.is c.requires.at

pub returns-in-Call-clause-does : goal.returns-in-Call-clause-does
returns-in-Call-clause-does g c = by_over_at (HasNoRoom g.B.Blocks.has_room c.args.heap.now) (HasNoMemory g.B.Blocks.allows (g.B.Blocks.kept c.args.heap.now) (g.B.Blocks.blocks c.args.heap.now)) c.args.scene.program.now c.args.act c.args.place c.args.state.now c.call.new.state c.call.result (g.B.Blocks.blocks c.args.heap.now) (g.B.Blocks.blocks c.call.new.heap) (state_of g.W.Write.contents c.args.output.now) (i.Call c.in-Call.a0 c.in-Call.a1) c.in-Call.is c.call.ensures.does

pub call-requires-clause-at : goal.call-requires-clause-at
call-requires-clause-at g c = subst (λ x. IsAt c.args.scene.program.now x (g.B.Blocks.blocks c.args.heap.now) c.args.state.now) c.in-Call.is c.requires.at

pub call-requires-clause-names : goal.call-requires-clause-names
call-requires-clause-names g c = (subst (λ x. HasRoomFor x c.args.state.now) c.in-Call.is c.requires.room).names

pub call-requires-clause-blocks : goal.call-requires-clause-blocks
call-requires-clause-blocks g c = (subst (λ x. HasRoomFor x c.args.state.now) c.in-Call.is c.requires.room).blocks

pub call-requires-clause-callers : goal.call-requires-clause-callers
call-requires-clause-callers g c = c.requires.room.callers

pub call-requires-clause-levels : goal.call-requires-clause-levels
call-requires-clause-levels g c = c.requires.room.levels

pub returns-in-ResultOf-clause-does : goal.returns-in-ResultOf-clause-does
returns-in-ResultOf-clause-does g c = by_over (HasNoRoom g.B.Blocks.has_room c.args.heap.now) (HasNoMemory g.B.Blocks.allows (g.B.Blocks.kept c.args.heap.now) (g.B.Blocks.blocks c.args.heap.now)) c.args.scene.program.now c.args.act c.args.place c.args.state.now c.result_of.new.state c.result_of.result (g.B.Blocks.blocks c.args.heap.now) (g.B.Blocks.blocks c.result_of.new.heap) (state_of g.W.Write.contents c.args.output.now) (i.ResultOf c.in-ResultOf.a0) c.in-ResultOf.is c.result_of.ensures.does

pub result_of-requires-clause-at : goal.result_of-requires-clause-at
result_of-requires-clause-at g c = subst (λ x. IsAt c.args.scene.program.now x (g.B.Blocks.blocks c.args.heap.now) c.args.state.now) c.in-ResultOf.is c.requires.at

pub returns-in-Associate-clause-does : goal.returns-in-Associate-clause-does
returns-in-Associate-clause-does g c = by_in (HasNoRoom g.B.Blocks.has_room c.args.heap.now) (HasNoMemory g.B.Blocks.allows (g.B.Blocks.kept c.args.heap.now) (g.B.Blocks.blocks c.args.heap.now)) c.args.scene.program.now c.args.act c.args.place c.args.state.now c.associate.new.state c.associate.result (g.B.Blocks.blocks c.args.heap.now) (g.B.Blocks.blocks c.args.heap.now) (state_of g.W.Write.contents c.args.output.now) (i.Associate c.in-Associate.a0) c.in-Associate.is (c.associate.ensures.does c.args.scene.program.now (g.B.Blocks.blocks c.args.heap.now))

pub associate-requires-clause-at : goal.associate-requires-clause-at
associate-requires-clause-at g c = ((g.B.Blocks.blocks c.args.heap.now), (c.args.scene.program.now, subst (λ x. IsAt c.args.scene.program.now x (g.B.Blocks.blocks c.args.heap.now) c.args.state.now) c.in-Associate.is c.requires.at))

pub associate-requires-clause-room : goal.associate-requires-clause-room
associate-requires-clause-room g c = c.requires.room.cells

pub associate-requires-clause-names : goal.associate-requires-clause-names
associate-requires-clause-names g c = (subst (λ x. HasRoomFor x c.args.state.now) c.in-Associate.is c.requires.room).names

pub associate-requires-clause-blocks : goal.associate-requires-clause-blocks
associate-requires-clause-blocks g c = let few = (subst (λ x. HasRoomFor x c.args.state.now) c.in-Associate.is c.requires.room).blocks in omega (arith, few)

pub associate-requires-clause-levels : goal.associate-requires-clause-levels
associate-requires-clause-levels g c = let few = c.requires.room.levels in omega (arith, few)

pub returns-in-BoundsOfValue-clause-rooms : goal.returns-in-BoundsOfValue-clause-rooms
returns-in-BoundsOfValue-clause-rooms g c = keeps_room c.bounds_of_value.ensures.keeps

pub returns-in-Load-clause-rooms : goal.returns-in-Load-clause-rooms
returns-in-Load-clause-rooms g c = keeps_room c.load.ensures.keeps

pub returns-in-Refer-clause-rooms : goal.returns-in-Refer-clause-rooms
returns-in-Refer-clause-rooms g c = keeps_room c.refer.ensures.keeps

pub returns-in-Component-clause-rooms : goal.returns-in-Component-clause-rooms
returns-in-Component-clause-rooms g c = keeps_room c.component.ensures.keeps

pub returns-in-Select-clause-rooms : goal.returns-in-Select-clause-rooms
returns-in-Select-clause-rooms g c = keeps_room c.select.ensures.keeps

pub returns-in-ComponentOf-clause-rooms : goal.returns-in-ComponentOf-clause-rooms
returns-in-ComponentOf-clause-rooms g c = keeps_room c.component_beside.ensures.keeps

pub returns-in-SelectOf-clause-rooms : goal.returns-in-SelectOf-clause-rooms
returns-in-SelectOf-clause-rooms g c = keeps_room c.select_of.ensures.keeps

pub returns-in-Selecting-clause-rooms : goal.returns-in-Selecting-clause-rooms
returns-in-Selecting-clause-rooms g c = keeps_room c.selecting.ensures.keeps

pub returns-in-Set-clause-rooms : goal.returns-in-Set-clause-rooms
returns-in-Set-clause-rooms g c = keeps_room c.set.ensures.keeps

pub returns-in-Take-clause-rooms : goal.returns-in-Take-clause-rooms
returns-in-Take-clause-rooms g c = keeps_room c.take.ensures.keeps

pub returns-in-Fill-clause-rooms : goal.returns-in-Fill-clause-rooms
returns-in-Fill-clause-rooms g c = keeps_room c.fill.ensures.keeps

pub returns-in-Drop-clause-rooms : goal.returns-in-Drop-clause-rooms
returns-in-Drop-clause-rooms g c = keeps_room c.drop_top.ensures.keeps

pub returns-in-Unwind-clause-rooms : goal.returns-in-Unwind-clause-rooms
returns-in-Unwind-clause-rooms g c = keeps_room c.unwind.ensures.keeps

pub returns-in-PrintValue-clause-rooms : goal.returns-in-PrintValue-clause-rooms
returns-in-PrintValue-clause-rooms g c = keeps_room c.print_value.ensures.keeps

pub returns-in-PrintByte-clause-rooms : goal.returns-in-PrintByte-clause-rooms
returns-in-PrintByte-clause-rooms g c = keeps_room c.print_byte.ensures.keeps

pub returns-in-EndAssociate-clause-rooms : goal.returns-in-EndAssociate-clause-rooms
returns-in-EndAssociate-clause-rooms g c = c.end_associate.ensures.keeps

pub returns-in-CountBegin-clause-rooms : goal.returns-in-CountBegin-clause-rooms
returns-in-CountBegin-clause-rooms g c = keeps_room c.count_begin.ensures.keeps

pub returns-in-CountUp-clause-rooms : goal.returns-in-CountUp-clause-rooms
returns-in-CountUp-clause-rooms g c = keeps_room c.count_up.ensures.keeps

pub returns-in-Return-clause-rooms : goal.returns-in-Return-clause-rooms
returns-in-Return-clause-rooms g c = c.return_to_caller.ensures.keeps

pub returns-in-Array-clause-rooms : goal.returns-in-Array-clause-rooms
returns-in-Array-clause-rooms g c = keeps_room c.array.ensures.keeps

pub returns-in-Structure-clause-rooms : goal.returns-in-Structure-clause-rooms
returns-in-Structure-clause-rooms g c = keeps_room c.structure.ensures.keeps

pub returns-in-Call-clause-rooms : goal.returns-in-Call-clause-rooms
returns-in-Call-clause-rooms g c = c.call.ensures.keeps

pub returns-in-ResultOf-clause-rooms : goal.returns-in-ResultOf-clause-rooms
returns-in-ResultOf-clause-rooms g c = keeps_room c.result_of.ensures.keeps

pub returns-in-Associate-clause-rooms : goal.returns-in-Associate-clause-rooms
returns-in-Associate-clause-rooms g c = c.associate.ensures.keeps

pub returns-in_default-clause-rooms : goal.returns-in_default-clause-rooms
returns-in_default-clause-rooms g c = keeps_room c.do_cells.ensures.keeps

pub bounds_of_value-requires-clause-room : goal.bounds_of_value-requires-clause-room
bounds_of_value-requires-clause-room g c = let few = c.requires.room.cells in omega (arith, few)

pub load-requires-clause-room : goal.load-requires-clause-room
load-requires-clause-room g c = let few = c.requires.room.cells in omega (arith, few)

pub refer-requires-clause-room : goal.refer-requires-clause-room
refer-requires-clause-room g c = let few = c.requires.room.cells in omega (arith, few)

pub component-requires-clause-room : goal.component-requires-clause-room
component-requires-clause-room g c = let few = c.requires.room.cells in omega (arith, few)

pub select-requires-clause-room : goal.select-requires-clause-room
select-requires-clause-room g c = let few = c.requires.room.cells in omega (arith, few)

pub component_beside-requires-clause-room : goal.component_beside-requires-clause-room
component_beside-requires-clause-room g c = let few = c.requires.room.cells in omega (arith, few)

pub select_of-requires-clause-room : goal.select_of-requires-clause-room
select_of-requires-clause-room g c = let few = c.requires.room.cells in omega (arith, few)

pub selecting-requires-clause-room : goal.selecting-requires-clause-room
selecting-requires-clause-room g c = let few = c.requires.room.cells in omega (arith, few)

pub set-requires-clause-room : goal.set-requires-clause-room
set-requires-clause-room g c = let few = c.requires.room.cells in omega (arith, few)

pub end_associate-requires-clause-room : goal.end_associate-requires-clause-room
end_associate-requires-clause-room g c = let few = c.requires.room.cells in omega (arith, few)

pub count_begin-requires-clause-room : goal.count_begin-requires-clause-room
count_begin-requires-clause-room g c = let few = c.requires.room.cells in omega (arith, few)

pub count_up-requires-clause-room : goal.count_up-requires-clause-room
count_up-requires-clause-room g c = let few = c.requires.room.cells in omega (arith, few)

pub return_to_caller-requires-clause-room : goal.return_to_caller-requires-clause-room
return_to_caller-requires-clause-room g c = let few = c.requires.room.cells in omega (arith, few)

pub array-requires-clause-room : goal.array-requires-clause-room
array-requires-clause-room g c = let few = c.requires.room.cells in omega (arith, few)

pub structure-requires-clause-room : goal.structure-requires-clause-room
structure-requires-clause-room g c = let few = c.requires.room.cells in omega (arith, few)

pub result_of-requires-clause-room : goal.result_of-requires-clause-room
result_of-requires-clause-room g c = let few = c.requires.room.cells in omega (arith, few)

pub do_cells-requires-clause-room : goal.do_cells-requires-clause-room
do_cells-requires-clause-room g c = let few = c.requires.room.cells in omega (arith, few)

pub returns-in_default-clause-does : goal.returns-in_default-clause-does
returns-in_default-clause-does g c =
    by_cells (HasNoRoom g.B.Blocks.has_room c.args.heap.now) (HasNoMemory g.B.Blocks.allows (g.B.Blocks.kept c.args.heap.now) (g.B.Blocks.blocks c.args.heap.now)) c.args.scene.program.now c.args.act c.args.place c.args.state.now c.do_cells.new.state c.do_cells.result (g.B.Blocks.blocks c.args.heap.now) (state_of g.W.Write.contents c.args.output.now) c.len-total.result
    (lines_are c.args.scene c.requires.scene c.len-total.result c.len-total.ensures)
    (c.do_cells.ensures.does (go c.args.act refl (plain_at c.args.scene.program.now c.args.act (g.B.Blocks.blocks c.args.heap.now) c.args.state.now c.requires.plain c.requires.at))) where
      go : (x : Instruction) → c.args.act ≡ x → is_plain_act x ≡ true → is_cells_act x ≡ true
      go i.BoundsOfValue e plain = absurd (c.in_default.not-BoundsOfValue e)
      go i.Load e plain = absurd (c.in_default.not-Load e)
      go (i.Refer a0) e plain = absurd (c.in_default.not-Refer a0 e)
      go (i.Component a0) e plain = absurd (c.in_default.not-Component a0 e)
      go (i.Select a0 a1) e plain = absurd (c.in_default.not-Select a0 a1 e)
      go (i.ComponentOf a0) e plain = absurd (c.in_default.not-ComponentOf a0 e)
      go (i.SelectOf a0 a1 a2) e plain = absurd (c.in_default.not-SelectOf a0 a1 a2 e)
      go i.Selecting e plain = absurd (c.in_default.not-Selecting e)
      go i.Set e plain = absurd (c.in_default.not-Set e)
      go (i.Take a0) e plain = absurd (c.in_default.not-Take a0 e)
      go (i.Fill a0) e plain = absurd (c.in_default.not-Fill a0 e)
      go i.Drop e plain = absurd (c.in_default.not-Drop e)
      go (i.Unwind a0) e plain = absurd (c.in_default.not-Unwind a0 e)
      go i.PrintValue e plain = absurd (c.in_default.not-PrintValue e)
      go (i.PrintByte a0) e plain = absurd (c.in_default.not-PrintByte a0 e)
      go i.EndAssociate e plain = absurd (c.in_default.not-EndAssociate e)
      go i.CountBegin e plain = absurd (c.in_default.not-CountBegin e)
      go (i.CountUp a0) e plain = absurd (c.in_default.not-CountUp a0 e)
      go i.Return e plain = absurd (c.in_default.not-Return e)
      go (i.Array a0) e plain = absurd (c.in_default.not-Array a0 e)
      go (i.Structure a0 a1) e plain = absurd (c.in_default.not-Structure a0 a1 e)
      go (i.Call a0 a1) e plain = absurd (c.in_default.not-Call a0 a1 e)
      go (i.ResultOf a0) e plain = absurd (c.in_default.not-ResultOf a0 e)
      go (i.Associate a0) e plain = absurd (c.in_default.not-Associate a0 e)
      go (i.Push a0) e plain = refl
      go i.Plain e plain = refl
      go (i.Unary a0 a1) e plain = refl
      go (i.Binary a0 a1) e plain = refl
      go i.BoundsOfVariable e plain = refl
      go i.Size e plain = refl
      go (i.Bound a0) e plain = refl
      go (i.PassValue a0) e plain = refl
      go (i.PassVariable a0) e plain = refl
      go i.Result e plain = refl
      go i.Clear e plain = refl
      go i.Subscript e plain = refl
      go i.Limit e plain = refl
      go i.NoLimit e plain = refl
      go i.Triplet e plain = refl
      go i.TestShape e plain = refl
      go i.Begin e plain = refl
      go i.Swap e plain = refl
      go (i.Stop a0) e plain = refl
      go i.SetPlace e plain = refl
      go (i.GoOn a0) e plain = refl
      go (i.GoBack a0) e plain = refl
      go (i.SkipIfFalse a0) e plain = refl
      go (i.SkipIfTrue a0) e plain = refl
      go (i.Meets a0) e plain = refl
      go (i.Leave a0 a1) e plain = refl
      go (i.Depart a0 a1) e plain = refl
      go i.SelectVariable e plain = refl
      go (i.SelectValue a0) e plain = refl
      go i.Associated e plain = refl
      go (i.NextObject a0) e plain = refl
      go (i.Convert a0) e plain = refl
      go i.TestStep e plain = refl
      go (i.CountNext a0) e plain = refl
      go i.Lend e plain = refl
      go i.Unlend e plain = refl
      go i.Discard e plain = refl
      go i.Dummies e plain = refl
      go i.Outward e plain = refl
      go (i.NextArgument a0 a1) e plain = refl
      go i.Finish e plain = refl
      go x e plain = absurd (true≢false (sym plain))

pub returns-in-BoundsOfValue-clause-kept : goal.returns-in-BoundsOfValue-clause-kept
returns-in-BoundsOfValue-clause-kept g c = inl c.bounds_of_value.ensures.kept

pub returns-in-Load-clause-kept : goal.returns-in-Load-clause-kept
returns-in-Load-clause-kept g c = c.load.ensures.kept

pub returns-in-Refer-clause-kept : goal.returns-in-Refer-clause-kept
returns-in-Refer-clause-kept g c = inl refl

pub returns-in-Component-clause-kept : goal.returns-in-Component-clause-kept
returns-in-Component-clause-kept g c = inl refl

pub returns-in-Select-clause-kept : goal.returns-in-Select-clause-kept
returns-in-Select-clause-kept g c = inl refl

pub returns-in-ComponentOf-clause-kept : goal.returns-in-ComponentOf-clause-kept
returns-in-ComponentOf-clause-kept g c = inl refl

pub returns-in-SelectOf-clause-kept : goal.returns-in-SelectOf-clause-kept
returns-in-SelectOf-clause-kept g c = inl refl

pub returns-in-Selecting-clause-kept : goal.returns-in-Selecting-clause-kept
returns-in-Selecting-clause-kept g c = inl c.selecting.ensures.kept

pub returns-in-Set-clause-kept : goal.returns-in-Set-clause-kept
returns-in-Set-clause-kept g c = inl c.set.ensures.kept

pub returns-in-Take-clause-kept : goal.returns-in-Take-clause-kept
returns-in-Take-clause-kept g c = inl c.take.ensures.kept

pub returns-in-Fill-clause-kept : goal.returns-in-Fill-clause-kept
returns-in-Fill-clause-kept g c = inl c.fill.ensures.kept

pub returns-in-Drop-clause-kept : goal.returns-in-Drop-clause-kept
returns-in-Drop-clause-kept g c = inl c.drop_top.ensures.kept

pub returns-in-Unwind-clause-kept : goal.returns-in-Unwind-clause-kept
returns-in-Unwind-clause-kept g c = inl c.unwind.ensures.kept

pub returns-in-PrintValue-clause-kept : goal.returns-in-PrintValue-clause-kept
returns-in-PrintValue-clause-kept g c = inl c.print_value.ensures.kept

pub returns-in-PrintByte-clause-kept : goal.returns-in-PrintByte-clause-kept
returns-in-PrintByte-clause-kept g c = inl refl

pub returns-in-EndAssociate-clause-kept : goal.returns-in-EndAssociate-clause-kept
returns-in-EndAssociate-clause-kept g c = inl c.end_associate.ensures.kept

pub returns-in-CountBegin-clause-kept : goal.returns-in-CountBegin-clause-kept
returns-in-CountBegin-clause-kept g c = inl c.count_begin.ensures.kept

pub returns-in-CountUp-clause-kept : goal.returns-in-CountUp-clause-kept
returns-in-CountUp-clause-kept g c = inl c.count_up.ensures.kept

pub returns-in-Return-clause-kept : goal.returns-in-Return-clause-kept
returns-in-Return-clause-kept g c = inl c.return_to_caller.ensures.kept

pub returns-in-Array-clause-kept : goal.returns-in-Array-clause-kept
returns-in-Array-clause-kept g c = c.array.ensures.kept

pub returns-in-Structure-clause-kept : goal.returns-in-Structure-clause-kept
returns-in-Structure-clause-kept g c = c.structure.ensures.kept

pub returns-in-Call-clause-kept : goal.returns-in-Call-clause-kept
returns-in-Call-clause-kept g c = c.call.ensures.kept

pub returns-in-ResultOf-clause-kept : goal.returns-in-ResultOf-clause-kept
returns-in-ResultOf-clause-kept g c = c.result_of.ensures.kept

pub returns-in-Associate-clause-kept : goal.returns-in-Associate-clause-kept
returns-in-Associate-clause-kept g c = inl refl

pub returns-in_default-clause-kept : goal.returns-in_default-clause-kept
returns-in_default-clause-kept g c = inl refl
