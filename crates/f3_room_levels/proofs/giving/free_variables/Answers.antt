use Rattle.std.proofs.Common.{◌+◌, drop, refl, sym, ◌∙◌, arith}
use Rattle.std.proofs.lemmas.List.{drop_all}
use Rattle.f3_objects.specs.Tree.{Fits}
use Rattle.f3_objects.proofs.Freeing.{freed_none, freed_more, freed_stop, first_part}
use Rattle.f3_room_places.specs.Places.{shapes}
use Rattle.f3_room_levels.specs.Levels.{room_layout, variable_layout}
use Rattle.f3_room_levels.proofs.Types.{drop_variable}
use Rattle.f3_room_levels.proofs.Returning.{freed_first, freed_behind, freed_room, variable_wide}
use Rattle.f3_room_levels.proofs.giving.free_variables.Goals as goal

pub loop-variable-init : goal.loop-variable-init
loop-variable-init g c = record {
  freed = λ t h. freed_none (g.B.Blocks.blocks c.args.heap.now) c.args.block 0 (Fits (room_layout (shapes c.args.types) c.args.declared.now)) t h.stands h.fits;
  kept = refl;
}

pub free_variable-requires-clause-holds : goal.free_variable-requires-clause-holds
free_variable-requires-clause-holds g c =
    let ts = shapes c.args.types in
    let old = g.B.Blocks.blocks c.args.heap.now in
    let now = g.B.Blocks.blocks c.loop-variable.heap in
    let ds = c.args.declared.now in
    let i = c.loop-variable.variable-index in
    let x = c.variable-item.result in
    let h = c.requires.holds in
    let f = freed_first ts old now c.args.block c.loop-variable.at h.0 (drop i ds) (drop (i + 1) ds) x (drop_variable ds i x c.loop-variable-test.true c.variable-item.is)
    (c.loop-variable.invariant.freed h.0 h.1) in
    let st = first_part old now now c.args.block 0 c.loop-variable.at (Fits (variable_layout ts x)) (Fits (room_layout ts (drop (i + 1) ds))) h.0 h.1.stands f in
    (f.has.front, record { stands = st; fits = f.has.first })

pub room_of-at-requires-clause-small : goal.room_of-at-requires-clause-small
room_of-at-requires-clause-small g c =
    let ts = shapes c.args.types in
    let old = g.B.Blocks.blocks c.args.heap.now in
    let now = g.B.Blocks.blocks c.loop-variable.heap in
    let ds = c.args.declared.now in
    let i = c.loop-variable.variable-index in
    let x = c.variable-item.result in
    let h = c.requires.holds in
    let f = freed_first ts old now c.args.block c.loop-variable.at h.0 (drop i ds) (drop (i + 1) ds) x (drop_variable ds i x c.loop-variable-test.true c.variable-item.is)
    (c.loop-variable.invariant.freed h.0 h.1) in
    let w = freed_room ts old now c.args.block c.loop-variable.at h.0 (drop (i + 1) ds) x h.1.stands f in
    omega (arith, c.length.ensures, c.length.type_inv)

pub overflow_add-at : goal.overflow_add-at
overflow_add-at g c =
    let ts = shapes c.args.types in
    let old = g.B.Blocks.blocks c.args.heap.now in
    let now = g.B.Blocks.blocks c.loop-variable.heap in
    let ds = c.args.declared.now in
    let i = c.loop-variable.variable-index in
    let x = c.variable-item.result in
    let h = c.requires.holds in
    let f = freed_first ts old now c.args.block c.loop-variable.at h.0 (drop i ds) (drop (i + 1) ds) x (drop_variable ds i x c.loop-variable-test.true c.variable-item.is)
    (c.loop-variable.invariant.freed h.0 h.1) in
    let w = freed_room ts old now c.args.block c.loop-variable.at h.0 (drop (i + 1) ds) x h.1.stands f in
    omega (arith, c.length.ensures, c.length.type_inv, c.room_of-at.ensures)

pub returns-in-Err-clause-freed : goal.returns-in-Err-clause-freed
returns-in-Err-clause-freed g c = λ t h.
    let ts = shapes c.args.types in
    let old = g.B.Blocks.blocks c.args.heap.now in
    let now = g.B.Blocks.blocks c.loop-variable.heap in
    let new = g.B.Blocks.blocks c.free_variable.new.heap in
    let ds = c.args.declared.now in
    let i = c.loop-variable.variable-index in
    let x = c.variable-item.result in
    let f = freed_first ts old now c.args.block c.loop-variable.at t (drop i ds) (drop (i + 1) ds) x (drop_variable ds i x c.loop-variable-test.true c.variable-item.is)
    (c.loop-variable.invariant.freed t h) in
    let st = first_part old now new c.args.block 0 c.loop-variable.at (Fits (variable_layout ts x)) (Fits (room_layout ts (drop (i + 1) ds))) t h.stands f in
    freed_stop old now new c.args.block 0 c.loop-variable.at (Fits (variable_layout ts x)) (Fits (room_layout ts (drop (i + 1) ds))) t h.stands f
    ((c.in-Err.ensures {u = tt}).freed f.has.front (record { stands = st; fits = f.has.first }))

pub returns-in-Err-clause-kept : goal.returns-in-Err-clause-kept
returns-in-Err-clause-kept g c = c.free_variable.ensures.kept ∙ c.loop-variable.invariant.kept

pub loop-variable-preserved : goal.loop-variable-preserved
loop-variable-preserved g c =
    let ts = shapes c.args.types in
    let old = g.B.Blocks.blocks c.args.heap.now in
    let now = g.B.Blocks.blocks c.loop-variable.heap in
    let new = g.B.Blocks.blocks c.free_variable.new.heap in
    let ds = c.args.declared.now in
    let i = c.loop-variable.variable-index in
    let x = c.variable-item.result in
    record {
      freed = λ t h.
          let f = freed_first ts old now c.args.block c.loop-variable.at t (drop i ds) (drop (i + 1) ds) x (drop_variable ds i x c.loop-variable-test.true c.variable-item.is)
          (c.loop-variable.invariant.freed t h) in
          let st = first_part old now new c.args.block 0 c.loop-variable.at (Fits (variable_layout ts x)) (Fits (room_layout ts (drop (i + 1) ds))) t h.stands f in
          freed_more old now new c.args.block 0 c.loop-variable.at (Fits (variable_layout ts x)) (Fits (room_layout ts (drop (i + 1) ds))) t h.stands f c.room_of-at.result
          (variable_wide ts x f.has.front f.has.first ∙ sym c.room_of-at.ensures) ((c.in-Ok.ensures {u = tt}).freed f.has.front (record { stands = st; fits = f.has.first }));
      kept = c.free_variable.ensures.kept ∙ c.loop-variable.invariant.kept;
    }

pub returns-clause-freed : goal.returns-clause-freed
returns-clause-freed g c = λ t h.
    let ds = c.args.declared.now in
    let i = c.loop-variable.variable-index in
    freed_behind (shapes c.args.types) (g.B.Blocks.blocks c.args.heap.now) (g.B.Blocks.blocks c.loop-variable.heap) c.args.block c.loop-variable.at t (drop i ds)
    (drop_all i ds (omega arith)) (c.loop-variable.invariant.freed t h)

pub returns-clause-kept : goal.returns-clause-kept
returns-clause-kept g c = c.loop-variable.invariant.kept
