use Rattle.f3_word_copies.proofs.Reset.{set-lost, set-forbids, set-can, sets}
use Rattle.std.proofs.Common.{subst}
use Rattle.f3_word_cells.specs.declared.cell.Object.{Object}
use Rattle.f3_word_cells.specs.declared.cell.Cell.TheVariants as cell
use Rattle.f3_word_cells.specs.Moves.{Popped}
use Rattle.f3_word_copies.proofs.setting.set.Goals as goal

pub returns-in_default-clause-does : goal.returns-in_default-clause-does
returns-in_default-clause-does g c = let m = g.B.Blocks.blocks c.args.heap.now in set-lost c.args.scene.program.now m m c.args.state.now c.pop_object.new.state c.pop_object.new.state c.in_default.ensures

pub returns-in_default-object-clause-does : goal.returns-in_default-object-clause-does
returns-in_default-object-clause-does g c =
    let m = g.B.Blocks.blocks c.args.heap.now in
    let popped = subst (λ (w : Object). Popped (cell.Object w) c.args.state.now c.pop_object.new.state) c.in_default-object.is c.in-Some.ensures in
    set-forbids c.args.scene.program.now m m c.args.state.now c.pop_object.new.state c.pop_object.new.state c.in_default-object.field-0 c.in_default-object.field-1 popped

pub begin-requires-clause-can : goal.begin-requires-clause-can
begin-requires-clause-can g c =
    let p = c.args.scene.program.now in
    let m = g.B.Blocks.blocks c.args.heap.now in
    let at = c.requires.at in
    let can = set-can p m c.args.state.now c.pop_object.new.state c.in-Some.object c.in-Some.ensures c.in-Stands.area c.in-Stands.is c.args.scene.types c.requires.scene.types at.state at.line at.rooms at.told at.there at.act at.stands in
    (p, at.rooms, (can.0).top.reference, can.1)

pub returns-clause-does : goal.returns-clause-does
returns-clause-does g c =
    let p = c.args.scene.program.now in
    let m = g.B.Blocks.blocks c.args.heap.now in
    sets p m c.args.state.now c.pop_object.new.state c.in-Some.object c.in-Some.ensures c.in-Stands.area c.in-Stands.is c.args.scene.types c.requires.scene.types (g.B.Blocks.blocks c.begin.new.heap)
    (λ x r can. c.begin.ensures.takes p x r can) c.go_on_with.new.self c.go_on_with.ensures
