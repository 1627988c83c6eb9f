use Rattle.f3_desc.specs.Shape.{whole}
use Rattle.f3_desc.specs.Layout.{pieces_of}
use Rattle.f3_room_objects.specs.Trees.{tree_at}
use Rattle.f3_room_changes.proofs.Copied.{ready, copied, emptied}
use Rattle.f3_room_changes.proofs.Places.{when_ok, when_err}
use Rattle.f3_room_changes.proofs.copying.copy.Goals as goal

pub copy_tree-requires : goal.copy_tree-requires
copy_tree-requires g c =
    let h = c.requires in
    let m = g.B.Blocks.blocks c.args.heap.now in
    (tree_at m h.6, tree_at m h.7, ready h.0 m h.1 h.2 h.3 h.4 h.5 h.6 h.7 c.args.from c.args.from_at c.args.to c.args.to_at (whole (pieces_of c.args.layout.now)) h.8)

pub returns-clause-copied : goal.returns-clause-copied
returns-clause-copied g c = when_ok c.copy_tree.result _ _ (λ made ts x q r other way k f p.
    let m = g.B.Blocks.blocks c.args.heap.now in
    let l = whole (pieces_of c.args.layout.now) in
    copied ts m x q r other way k f c.args.from c.args.from_at c.args.to c.args.to_at l p (g.B.Blocks.blocks c.copy_tree.new.heap)
    (made (tree_at m k) (tree_at m f) (ready ts m x q r other way k f c.args.from c.args.from_at c.args.to c.args.to_at l p))) c.copy_tree.ensures.copied

pub returns-clause-took : goal.returns-clause-took
returns-clause-took g c = when_ok c.copy_tree.result _ _ (λ made ts x q r other way k f p.
    let m = g.B.Blocks.blocks c.args.heap.now in
    made (tree_at m k) (tree_at m f) (ready ts m x q r other way k f c.args.from c.args.from_at c.args.to c.args.to_at (whole (pieces_of c.args.layout.now)) p)) c.copy_tree.ensures.copied

pub returns-clause-emptied : goal.returns-clause-emptied
returns-clause-emptied g c = when_err c.copy_tree.result _ _ (λ made ts x q r other way k f p.
    let m = g.B.Blocks.blocks c.args.heap.now in
    let l = whole (pieces_of c.args.layout.now) in
    emptied ts m x q r other way k f c.args.from c.args.from_at c.args.to c.args.to_at l p (g.B.Blocks.blocks c.copy_tree.new.heap)
    (made (tree_at m k) (tree_at m f) (ready ts m x q r other way k f c.args.from c.args.from_at c.args.to c.args.to_at l p))) c.copy_tree.ensures.emptied

pub returns-clause-refused : goal.returns-clause-refused
returns-clause-refused g c = when_err c.copy_tree.result _ _ (λ made ts x q r other way k f p.
    let m = g.B.Blocks.blocks c.args.heap.now in
    made (tree_at m k) (tree_at m f) (ready ts m x q r other way k f c.args.from c.args.from_at c.args.to c.args.to_at (whole (pieces_of c.args.layout.now)) p)) c.copy_tree.ensures.refused

pub returns-clause-used : goal.returns-clause-used
returns-clause-used g c = when_ok c.copy_tree.result _ _ (λ made ts x q r other way k f p.
    let m = g.B.Blocks.blocks c.args.heap.now in
    made (tree_at m k) (tree_at m f) (ready ts m x q r other way k f c.args.from c.args.from_at c.args.to c.args.to_at (whole (pieces_of c.args.layout.now)) p)) c.copy_tree.ensures.used
