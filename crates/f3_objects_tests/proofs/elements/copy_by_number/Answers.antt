use Rattle.std.proofs.Common.{sym, subst}
use Rattle.f3_desc.specs.Shape.{Shape, Times}
use Rattle.f3_objects.specs.Tree.{blank}
use Rattle.f3_objects.specs.Copies.{Ready}
use Rattle.f3_objects_tests.proofs.TwoLists.{pair, two, ready_for, copied_head, list-shape}
use Rattle.f3_objects_tests.proofs.elements.copy_by_number.Goals as goal

pub copy_elements-requires-clause-ready : goal.copy_elements-requires-clause-ready
copy_elements-requires-clause-ready g c =
    let m = g.B.Blocks.blocks c.args.heap.now in
    let P : Shape → Type 0 = λ s. Ready m c.args.lists 0 c.args.copy 0 (Times 2 s) (two c.args.numbers) (blank pair) in
    (two c.args.numbers, blank pair, subst P (sym (list-shape c.args.layout.now c.requires.layout)) (ready_for m c.args.numbers c.args.lists c.args.copy c.requires.ready))

pub returns-in-Ok : goal.returns-in-Ok
returns-in-Ok g c = λ t.
    let m = g.B.Blocks.blocks c.args.heap.now in
    let P : Shape → Type 0 = λ s. Ready m c.args.lists 0 c.args.copy 0 (Times 2 s) (two c.args.numbers) (blank pair) in
    let ready = subst P (sym (list-shape c.args.layout.now c.requires.layout)) (ready_for m c.args.numbers c.args.lists c.args.copy c.requires.ready) in
    (copied_head m (g.B.Blocks.blocks c.copy_elements.new.heap) c.args.numbers c.args.copy _ _ _ (c.in-Ok.ensures.copied (two c.args.numbers) (blank pair) ready), (c.in-Ok.ensures.source (two c.args.numbers) (blank pair) ready).stands.live)
