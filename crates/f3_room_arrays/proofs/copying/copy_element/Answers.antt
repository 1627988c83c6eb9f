use Rattle.std.proofs.Common.{pos}
use Rattle.std.proofs.lemmas.List.{length-replicate}
use Rattle.f3_desc.specs.Shape.{whole, width}
use Rattle.f3_desc.specs.Layout.{pieces_of}
use Rattle.f3_objects.specs.Tree.{blank}
use Rattle.f3_room_arrays.proofs.Cloning.{clone-ready, clone-done, clone-spoiled, on-ok, on-err, answered-of}
use Rattle.f3_room_arrays.proofs.copying.copy_element.Goals as goal

pub copy_tree-requires : goal.copy_tree-requires
copy_tree-requires g c =
    let s = whole (pieces_of c.args.layout.now) in
    (c.requires.0, blank s, clone-ready _ _ c.args.from c.args.from_at c.args.to c.args.to_at s c.requires.0 _ c.requires.1 c.clear.ensures.zeros c.clear.ensures.unallocated c.clear.ensures.bare)

pub returns-clause-copied : goal.returns-clause-copied
returns-clause-copied g c =
    let s = whole (pieces_of c.args.layout.now) in
    let many = length-replicate (width s) (pos 0) in
    on-ok c.copy_tree.result (λ copies t ready.
    let r = clone-ready _ _ c.args.from c.args.from_at c.args.to c.args.to_at s t _ ready c.clear.ensures.zeros c.clear.ensures.unallocated c.clear.ensures.bare in
    clone-done _ _ c.args.from c.args.from_at c.args.to c.args.to_at s t _ ready c.clear.ensures.zeros many _ _ c.clear.ensures.unallocated c.clear.ensures.bare (copies t (blank s) r)) c.copy_tree.ensures.copied

pub returns-clause-spoiled : goal.returns-clause-spoiled
returns-clause-spoiled g c =
    let s = whole (pieces_of c.args.layout.now) in
    let many = length-replicate (width s) (pos 0) in
    let t = c.requires.0 in
    let ready = c.requires.1 in
    let r = clone-ready _ _ c.args.from c.args.from_at c.args.to c.args.to_at s t _ ready c.clear.ensures.zeros c.clear.ensures.unallocated c.clear.ensures.bare in
    on-err c.copy_tree.result (λ empties.
    clone-spoiled _ _ c.args.from c.args.from_at c.args.to c.args.to_at s t _ ready c.clear.ensures.zeros many _ (empties t (blank s) r)) c.copy_tree.ensures.emptied

pub returns-clause-answered : goal.returns-clause-answered
returns-clause-answered g c =
    let s = whole (pieces_of c.args.layout.now) in
    let t = c.requires.0 in
    let r = clone-ready _ _ c.args.from c.args.from_at c.args.to c.args.to_at s t _ c.requires.1 c.clear.ensures.zeros c.clear.ensures.unallocated c.clear.ensures.bare in
    answered-of g.B.Blocks.allows g.B.Blocks.spent _ _ _ t c.copy_tree.result (on-err c.copy_tree.result (λ refuses. refuses t (blank s) r) c.copy_tree.ensures.refused)
