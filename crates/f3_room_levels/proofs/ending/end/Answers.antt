use Rattle.std.proofs.Common.{sym, subst}
use Rattle.std.specs.Prelude.{is_ok}
use Rattle.f3_live_blocks.specs.Blocks.{Live, pins_of}
use Rattle.f3_objects.specs.Holds.{Replaces, left}
use Rattle.f3_room_places.specs.Places.{shapes}
use Rattle.f3_room_levels.specs.Levels.{room_tree}
use Rattle.f3_room_levels.proofs.Ended.{alone_holds, mid_live, ends, unpinned_given, unpinned_left, when_ok, when_err}
use Rattle.f3_room_levels.proofs.ending.end.Goals as goal

pub free_variables-requires-clause-holds : goal.free_variables-requires-clause-holds
free_variables-requires-clause-holds g c =
    let m = g.B.Blocks.blocks c.args.heap.now in
    let r = c.requires.alone.0 in
    (room_tree (shapes c.args.types) m r, alone_holds (shapes c.args.types) m c.args.declared.now c.args.block r c.requires.alone.1)

pub give-requires : goal.give-requires
give-requires g c =
    let ts = shapes c.args.types in
    let ds = c.args.declared.now in
    let m = g.B.Blocks.blocks c.args.heap.now in
    let r = c.requires.alone.0 in
    let k = c.requires.alone.1 in
    mid_live ts m ds c.args.block r k (g.B.Blocks.blocks c.free_variables.new.heap) ((c.in-Ok.ensures {u = tt}).freed (room_tree ts m r) (alone_holds ts m ds c.args.block r k))

pub returns-in-Ok-clause-ended : goal.returns-in-Ok-clause-ended
returns-in-Ok-clause-ended g c =
    let ts = shapes c.args.types in
    let ds = c.args.declared.now in
    let m = g.B.Blocks.blocks c.args.heap.now in
    when_ok c.give.result _ _ (λ given r k.
    ends ts m ds c.args.block r k (g.B.Blocks.blocks c.free_variables.new.heap)
    ((c.in-Ok.ensures {u = tt}).freed (room_tree ts m r) (alone_holds ts m ds c.args.block r k)) (g.B.Blocks.blocks c.give.new.self) given)
    c.give.ensures.given

pub returns-in-Ok-clause-unpinned : goal.returns-in-Ok-clause-unpinned
returns-in-Ok-clause-unpinned g c = λ r k.
    let ts = shapes c.args.types in
    let ds = c.args.declared.now in
    let m = g.B.Blocks.blocks c.args.heap.now in
    unpinned_given ts m ds c.args.block r k (g.B.Blocks.blocks c.free_variables.new.heap)
    ((c.in-Ok.ensures {u = tt}).freed (room_tree ts m r) (alone_holds ts m ds c.args.block r k)) (is_ok c.give.result) c.give.ensures.unpinned

pub returns-in-Ok-clause-refused : goal.returns-in-Ok-clause-refused
returns-in-Ok-clause-refused g c =
    let ts = shapes c.args.types in
    let ds = c.args.declared.now in
    let m = g.B.Blocks.blocks c.args.heap.now in
    let told = c.in-Ok.ensures {u = tt} in
    when_err c.give.result _ _ (λ same r k.
    let t = room_tree ts m r in
    subst (λ (n : Live). Replaces m n c.args.block 0 t (left (pins_of m) t)) (sym same) ((told.freed t (alone_holds ts m ds c.args.block r k)).replaced))
    c.give.ensures.refused

pub returns-in-Err-clause-unpinned : goal.returns-in-Err-clause-unpinned
returns-in-Err-clause-unpinned g c = λ r k.
    let ts = shapes c.args.types in
    let ds = c.args.declared.now in
    let m = g.B.Blocks.blocks c.args.heap.now in
    unpinned_left ts m ds c.args.block r k (g.B.Blocks.blocks c.free_variables.new.heap) ((c.in-Err.ensures {u = tt}).freed (room_tree ts m r) (alone_holds ts m ds c.args.block r k))

pub returns-in-Err-clause-refused : goal.returns-in-Err-clause-refused
returns-in-Err-clause-refused g c = λ r k.
    let ts = shapes c.args.types in
    let ds = c.args.declared.now in
    let m = g.B.Blocks.blocks c.args.heap.now in
    ((c.in-Err.ensures {u = tt}).freed (room_tree ts m r) (alone_holds ts m ds c.args.block r k)).replaced
