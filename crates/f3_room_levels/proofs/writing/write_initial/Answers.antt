use Rattle.std.proofs.Common.{◌+◌, drop, refl, ◌∙◌, arith}
use Rattle.std.proofs.lemmas.List.{drop_all}
use Rattle.f3_room_places.specs.Places.{shapes}
use Rattle.f3_room_levels.proofs.Types.{drop_variable}
use Rattle.f3_room_levels.proofs.Leaving.{variables_all, variable_can, variable_here, variable_within, variable_written, variables_none}
use Rattle.f3_room_levels.proofs.writing.write_initial.Goals as goal

pub loop-variable-init : goal.loop-variable-init
loop-variable-init g c = record {
  variables = variables_all (shapes c.args.types) (g.B.Blocks.blocks c.args.heap.now) c.args.block 0 c.args.declared.now c.requires.fit c.requires.blank;
  kept = refl;
}

pub write_declared-requires-clause-fit : goal.write_declared-requires-clause-fit
write_declared-requires-clause-fit g c =
    let ds = c.args.declared.now in
    let i = c.loop-variable.variable-index in
    let x = c.variable-item.result in
    (variable_can (shapes c.args.types) (g.B.Blocks.blocks c.args.heap.now) (g.B.Blocks.blocks c.loop-variable.heap) c.args.block 0 c.loop-variable.at (drop i ds) (drop (i + 1) ds) ds x
    (drop_variable ds i x c.loop-variable-test.true c.variable-item.is) c.loop-variable.invariant.variables).0

pub write_declared-requires-clause-type_fit : goal.write_declared-requires-clause-type_fit
write_declared-requires-clause-type_fit g c =
    let ds = c.args.declared.now in
    let i = c.loop-variable.variable-index in
    let x = c.variable-item.result in
    (variable_can (shapes c.args.types) (g.B.Blocks.blocks c.args.heap.now) (g.B.Blocks.blocks c.loop-variable.heap) c.args.block 0 c.loop-variable.at (drop i ds) (drop (i + 1) ds) ds x
    (drop_variable ds i x c.loop-variable-test.true c.variable-item.is) c.loop-variable.invariant.variables).1

pub write_declared-requires-clause-blank : goal.write_declared-requires-clause-blank
write_declared-requires-clause-blank g c =
    let ds = c.args.declared.now in
    let i = c.loop-variable.variable-index in
    let x = c.variable-item.result in
    variable_here (shapes c.args.types) (g.B.Blocks.blocks c.args.heap.now) (g.B.Blocks.blocks c.loop-variable.heap) c.args.block 0 c.loop-variable.at (drop i ds) (drop (i + 1) ds) ds x
    (drop_variable ds i x c.loop-variable-test.true c.variable-item.is) c.loop-variable.invariant.variables

pub room_of-at-requires-clause-small : goal.room_of-at-requires-clause-small
room_of-at-requires-clause-small g c =
    let ds = c.args.declared.now in
    let i = c.loop-variable.variable-index in
    let x = c.variable-item.result in
    let w = variable_within (shapes c.args.types) (g.B.Blocks.blocks c.args.heap.now) (g.B.Blocks.blocks c.loop-variable.heap) c.args.block 0 c.loop-variable.at (drop i ds) (drop (i + 1) ds) ds x
    (drop_variable ds i x c.loop-variable-test.true c.variable-item.is) c.loop-variable.invariant.variables in
    omega (arith, c.length.ensures, c.length.type_inv)

pub overflow_add-at : goal.overflow_add-at
overflow_add-at g c =
    let ds = c.args.declared.now in
    let i = c.loop-variable.variable-index in
    let x = c.variable-item.result in
    let w = variable_within (shapes c.args.types) (g.B.Blocks.blocks c.args.heap.now) (g.B.Blocks.blocks c.loop-variable.heap) c.args.block 0 c.loop-variable.at (drop i ds) (drop (i + 1) ds) ds x
    (drop_variable ds i x c.loop-variable-test.true c.variable-item.is) c.loop-variable.invariant.variables in
    omega (arith, c.length.ensures, c.length.type_inv, c.room_of-at.ensures)

pub loop-variable-preserved : goal.loop-variable-preserved
loop-variable-preserved g c =
    let ds = c.args.declared.now in
    let i = c.loop-variable.variable-index in
    let x = c.variable-item.result in
    record {
      variables = variable_written (shapes c.args.types) (g.B.Blocks.blocks c.args.heap.now) (g.B.Blocks.blocks c.loop-variable.heap) c.args.block 0 c.loop-variable.at (drop i ds) (drop (i + 1) ds) ds x
          (drop_variable ds i x c.loop-variable-test.true c.variable-item.is) c.loop-variable.invariant.variables (g.B.Blocks.blocks c.write_declared.new.heap) c.room_of-at.result
          c.write_declared.ensures.written c.room_of-at.ensures;
      kept = c.write_declared.ensures.kept ∙ c.loop-variable.invariant.kept;
    }

pub returns-clause-written : goal.returns-clause-written
returns-clause-written g c =
    let ds = c.args.declared.now in
    let i = c.loop-variable.variable-index in
    variables_none (shapes c.args.types) (g.B.Blocks.blocks c.args.heap.now) (g.B.Blocks.blocks c.loop-variable.heap) c.args.block 0 c.loop-variable.at (drop i ds) ds
    (drop_all i ds (omega arith)) c.loop-variable.invariant.variables

pub returns-clause-kept : goal.returns-clause-kept
returns-clause-kept g c = c.loop-variable.invariant.kept
