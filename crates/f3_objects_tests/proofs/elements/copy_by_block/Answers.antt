use Rattle.std.proofs.Common.{sym, subst}
use Rattle.f3_desc.specs.Shape.{Shape, Times}
use Rattle.f3_desc.specs.Layout.{shape_in}
use Rattle.f3_objects.specs.Tree.{blank}
use Rattle.f3_objects.specs.Copies.{Ready, Refills}
use Rattle.f3_objects_tests.proofs.TwoLists.{pair, two, ready_for, copied_head, list-shape}
use Rattle.f3_objects_tests.proofs.elements.copy_by_block.Goals as goal

pub copy_contents-requires-clause-ready : goal.copy_contents-requires-clause-ready
copy_contents-requires-clause-ready g c =
    let m = g.B.Blocks.blocks c.args.heap.now in
    let P : Shape → Type 0 = λ s. Ready m c.args.lists 0 c.args.copy 0 (Times 2 s) (two c.args.numbers) (blank pair) in
    let ready = subst P (sym (list-shape c.args.layout.now c.requires.layout)) (ready_for m c.args.numbers c.args.lists c.args.copy c.requires.ready) in
    let filled : Refills m c.args.lists c.args.copy (shape_in c.args.layout.now 1) 2 (two c.args.numbers) (blank pair) = record { ready = ready; source = c.requires.ready.known.written; target = c.requires.ready.zeros } in
    (2, two c.args.numbers, blank pair, filled)

pub returns-in-Ok : goal.returns-in-Ok
returns-in-Ok g c = λ t.
    let m = g.B.Blocks.blocks c.args.heap.now in
    let P : Shape → Type 0 = λ s. Ready m c.args.lists 0 c.args.copy 0 (Times 2 s) (two c.args.numbers) (blank pair) in
    let ready = subst P (sym (list-shape c.args.layout.now c.requires.layout)) (ready_for m c.args.numbers c.args.lists c.args.copy c.requires.ready) in
    let filled : Refills m c.args.lists c.args.copy (shape_in c.args.layout.now 1) 2 (two c.args.numbers) (blank pair) = record { ready = ready; source = c.requires.ready.known.written; target = c.requires.ready.zeros } in
    (copied_head m (g.B.Blocks.blocks c.copy_contents.new.heap) c.args.numbers c.args.copy _ _ _ (c.in-Ok.ensures.copied 2 (two c.args.numbers) (blank pair) filled), (c.in-Ok.ensures.source 2 (two c.args.numbers) (blank pair) filled).stands.live)
