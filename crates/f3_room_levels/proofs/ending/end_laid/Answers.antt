use Rattle.std.proofs.Common.{sym, subst}
use Rattle.std.specs.Prelude.{is_ok}
use Rattle.f3_live_blocks.specs.Blocks.{Live, pins_of}
use Rattle.f3_desc.specs.Shape.{whole}
use Rattle.f3_desc.specs.Layout.{pieces_of}
use Rattle.f3_objects.specs.Holds.{Replaces, left}
use Rattle.f3_room_levels.specs.Levels.{room_tree}
use Rattle.f3_room_levels.proofs.Ended.{laid_holds, mid_live, ends, unpinned_given, unpinned_left, when_ok, when_err}
use Rattle.f3_room_levels.proofs.ending.end_laid.Goals as goal

pub free_tree-requires : goal.free_tree-requires
free_tree-requires g c =
    let m = g.B.Blocks.blocks c.args.heap.now in
    (room_tree c.requires.0 m c.requires.1, laid_holds c.requires.0 m (whole (pieces_of c.args.layout.now)) c.args.block c.requires.1 c.requires.2)

pub give-requires : goal.give-requires
give-requires g c =
    let m = g.B.Blocks.blocks c.args.heap.now in
    let l = whole (pieces_of c.args.layout.now) in
    let ts = c.requires.0 in
    let r = c.requires.1 in
    let k = c.requires.2 in
    mid_live ts m r.declared c.args.block r k.alone (g.B.Blocks.blocks c.free_tree.new.heap) ((c.in-Ok.ensures {u = tt}).freed (room_tree ts m r) (laid_holds ts m l c.args.block r k))

pub returns-in-Ok-clause-ended : goal.returns-in-Ok-clause-ended
returns-in-Ok-clause-ended g c =
    let m = g.B.Blocks.blocks c.args.heap.now in
    let l = whole (pieces_of c.args.layout.now) in
    when_ok c.give.result _ _ (λ given ts r k.
    ends ts m r.declared c.args.block r k.alone (g.B.Blocks.blocks c.free_tree.new.heap)
    ((c.in-Ok.ensures {u = tt}).freed (room_tree ts m r) (laid_holds ts m l c.args.block r k)) (g.B.Blocks.blocks c.give.new.self) given)
    c.give.ensures.given

pub returns-in-Ok-clause-unpinned : goal.returns-in-Ok-clause-unpinned
returns-in-Ok-clause-unpinned g c = λ ts r k.
    let m = g.B.Blocks.blocks c.args.heap.now in
    let l = whole (pieces_of c.args.layout.now) in
    unpinned_given ts m r.declared c.args.block r k.alone (g.B.Blocks.blocks c.free_tree.new.heap)
    ((c.in-Ok.ensures {u = tt}).freed (room_tree ts m r) (laid_holds ts m l c.args.block r k)) (is_ok c.give.result) c.give.ensures.unpinned

pub returns-in-Ok-clause-refused : goal.returns-in-Ok-clause-refused
returns-in-Ok-clause-refused g c =
    let m = g.B.Blocks.blocks c.args.heap.now in
    let l = whole (pieces_of c.args.layout.now) in
    let told = c.in-Ok.ensures {u = tt} in
    when_err c.give.result _ _ (λ same ts r k.
    let t = room_tree ts m r in
    subst (λ (n : Live). Replaces m n c.args.block 0 t (left (pins_of m) t)) (sym same) ((told.freed t (laid_holds ts m l c.args.block r k)).replaced))
    c.give.ensures.refused

pub returns-in-Err-clause-unpinned : goal.returns-in-Err-clause-unpinned
returns-in-Err-clause-unpinned g c = λ ts r k.
    let m = g.B.Blocks.blocks c.args.heap.now in
    let l = whole (pieces_of c.args.layout.now) in
    unpinned_left ts m r.declared c.args.block r k.alone (g.B.Blocks.blocks c.free_tree.new.heap) ((c.in-Err.ensures {u = tt}).freed (room_tree ts m r) (laid_holds ts m l c.args.block r k))

pub returns-in-Err-clause-refused : goal.returns-in-Err-clause-refused
returns-in-Err-clause-refused g c = λ ts r k.
    let m = g.B.Blocks.blocks c.args.heap.now in
    ((c.in-Err.ensures {u = tt}).freed (room_tree ts m r) (laid_holds ts m (whole (pieces_of c.args.layout.now)) c.args.block r k)).replaced
