use Rattle.std.proofs.Common.{Bool, subst}
use Rattle.f3_desc.specs.Shape.{whole}
use Rattle.f3_desc.specs.Layout.{pieces_of}
use Rattle.f3_objects.specs.Holds.{Frees}
use Rattle.f3_objects.proofs.Freeing.{on_ok}
use Rattle.f3_room_objects.specs.Trees.{tree_at}
use Rattle.f3_room_changes.proofs.Places.{laid_holds, laid_pins, when_ok}
use Rattle.f3_room_changes.proofs.Freeing.{freed, deallocated}
use Rattle.f3_room_changes.proofs.deallocating.deallocate.Goals as goal

pub free_tree-requires : goal.free_tree-requires
free_tree-requires g c =
    let h = c.requires in
    let m = g.B.Blocks.blocks c.args.heap.now in
    (tree_at m h.4, laid_holds h.0 m h.1 h.2 h.3 h.4 c.args.block c.args.at (whole (pieces_of c.args.layout.now)) h.5)

pub returns-clause-freed : goal.returns-clause-freed
returns-clause-freed g c = λ ts x r way f k.
    let m = g.B.Blocks.blocks c.args.heap.now in
    c.free_tree.ensures.freed (tree_at m f) (laid_holds ts m x r way f c.args.block c.args.at (whole (pieces_of c.args.layout.now)) k)

pub returns-clause-deallocated : goal.returns-clause-deallocated
returns-clause-deallocated g c = on_ok c.free_tree.result _ (λ e ts x r way f k rank is.
    let m = g.B.Blocks.blocks c.args.heap.now in
    let n = g.B.Blocks.blocks c.free_tree.new.heap in
    let l = whole (pieces_of c.args.layout.now) in
    let F : Bool → Type 0 = λ ok. Frees m n c.args.block c.args.at (tree_at m f) ok in
    deallocated ts m n x r way f c.args.block c.args.at l k (subst F e (c.free_tree.ensures.freed (tree_at m f) (laid_holds ts m x r way f c.args.block c.args.at l k))) rank is)

pub returns-clause-cleared : goal.returns-clause-cleared
returns-clause-cleared g c = on_ok c.free_tree.result _ (λ e ts x r way f k.
    let m = g.B.Blocks.blocks c.args.heap.now in
    let n = g.B.Blocks.blocks c.free_tree.new.heap in
    let l = whole (pieces_of c.args.layout.now) in
    let F : Bool → Type 0 = λ ok. Frees m n c.args.block c.args.at (tree_at m f) ok in
    freed ts m n x r way f c.args.block c.args.at l k (subst F e (c.free_tree.ensures.freed (tree_at m f) (laid_holds ts m x r way f c.args.block c.args.at l k))))

pub returns-clause-unpinned : goal.returns-clause-unpinned
returns-clause-unpinned g c = λ ts x r way f k.
    let m = g.B.Blocks.blocks c.args.heap.now in
    let l = whole (pieces_of c.args.layout.now) in
    let a = c.free_tree.ensures.unpinned (tree_at m f) (laid_holds ts m x r way f c.args.block c.args.at l k) in
    let b = laid_pins ts m x r way f c.args.block c.args.at l k in
    (λ o. b.0 (a.0 o), λ p. a.1 (b.1 p))

pub returns-clause-used : goal.returns-clause-used
returns-clause-used g c = when_ok c.free_tree.result _ _ (λ made ts x r way f k.
    let m = g.B.Blocks.blocks c.args.heap.now in
    made (tree_at m f) (laid_holds ts m x r way f c.args.block c.args.at (whole (pieces_of c.args.layout.now)) k)) c.free_tree.ensures.used
