use Rattle.f3_desc.specs.Shape.{whole}
use Rattle.f3_desc.specs.Layout.{pieces_of}
use Rattle.f3_objects.specs.Tree.{blank}
use Rattle.f3_objects_tests.proofs.Beside.{holds_kept, ready_beside, target_after, source_left}
use Rattle.f3_objects_tests.proofs.rounds.round.Goals as goal

pub free_object-is_source_free-requires : goal.free_object-is_source_free-requires
free_object-is_source_free-requires g c =
    let h = c.in_ok-source.ensures in
    (h.0, holds_kept (g.B.Blocks.blocks c.random_object.new.heap) (g.B.Blocks.blocks c.blank_object.new.heap) c.in_ok-source.source 0 (whole (pieces_of c.args.layout.now)) h.0 h.1 c.blank_object.ensures.kept)

pub copy_tree-copied-requires : goal.copy_tree-copied-requires
copy_tree-copied-requires g c =
    let s = whole (pieces_of c.args.layout.now) in
    let h = c.in_ok-source.ensures in
    (h.0, blank s, ready_beside (g.B.Blocks.blocks c.random_object.new.heap) (g.B.Blocks.blocks c.blank_object.new.heap) c.in_ok-source.source c.in-Some.target s h.0 h.1 c.in-Some.ensures.fresh c.in-Some.ensures.kept c.in-Some.ensures.holds)

pub free_object-is_target_free-requires : goal.free_object-is_target_free-requires
free_object-is_target_free-requires g c =
    let s = whole (pieces_of c.args.layout.now) in
    let h = c.in_ok-source.ensures in
    let m = g.B.Blocks.blocks c.blank_object.new.heap in
    let r = ready_beside (g.B.Blocks.blocks c.random_object.new.heap) m c.in_ok-source.source c.in-Some.target s h.0 h.1 c.in-Some.ensures.fresh c.in-Some.ensures.kept c.in-Some.ensures.holds in
    let v = target_after m (g.B.Blocks.blocks c.copy_tree-copied.new.heap) c.in_ok-source.source c.in-Some.target s h.0 (blank s) c.copy_tree-copied.result r _ c.copy_tree-copied.ensures.copied c.copy_tree-copied.ensures.emptied in
    (v.tree, v.holds)

pub free_object-is_free-requires : goal.free_object-is_free-requires
free_object-is_free-requires g c =
    let s = whole (pieces_of c.args.layout.now) in
    let h = c.in_ok-source.ensures in
    let m = g.B.Blocks.blocks c.blank_object.new.heap in
    let n = g.B.Blocks.blocks c.copy_tree-copied.new.heap in
    let r = ready_beside (g.B.Blocks.blocks c.random_object.new.heap) m c.in_ok-source.source c.in-Some.target s h.0 h.1 c.in-Some.ensures.fresh c.in-Some.ensures.kept c.in-Some.ensures.holds in
    let v = target_after m n c.in_ok-source.source c.in-Some.target s h.0 (blank s) c.copy_tree-copied.result r _ c.copy_tree-copied.ensures.copied c.copy_tree-copied.ensures.emptied in
    (h.0, source_left m n (g.B.Blocks.blocks c.free_object-is_target_free.new.heap) c.in_ok-source.source c.in-Some.target s h.0 (blank s) r (c.copy_tree-copied.ensures.source h.0 (blank s) r) v c.free_object-is_target_free.ensures)
