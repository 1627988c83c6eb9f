use Rattle.std.proofs.Common.{sym, subst}
use Rattle.f3_desc.specs.Shape.{Shape, Times}
use Rattle.f3_desc.specs.Layout.{shape_in}
use Rattle.f3_objects.specs.Holds.{Holds, IsContents}
use Rattle.f3_objects_tests.proofs.TwoLists.{two, two_hold, list-shape}
use Rattle.f3_objects_tests.proofs.elements.free_lists.Goals as goal

pub free_elements-requires-clause-holds : goal.free_elements-requires-clause-holds
free_elements-requires-clause-holds g c =
    let m = g.B.Blocks.blocks c.args.heap.now in
    let P : Shape → Type 0 = λ s. Holds m c.args.lists 0 (Times 2 s) (two c.args.numbers) in
    (two c.args.numbers, subst P (sym (list-shape c.args.layout.now c.requires.layout)) (two_hold m c.args.numbers c.args.lists c.requires.lists))

pub free_contents-requires-clause-holds : goal.free_contents-requires-clause-holds
free_contents-requires-clause-holds g c =
    let m = g.B.Blocks.blocks c.args.heap.now in
    let P : Shape → Type 0 = λ s. Holds m c.args.lists 0 (Times 2 s) (two c.args.numbers) in
    let holds = subst P (sym (list-shape c.args.layout.now c.requires.layout)) (two_hold m c.args.numbers c.args.lists c.requires.lists) in
    let filled : IsContents m c.args.lists (shape_in c.args.layout.now 1) 2 (two c.args.numbers) = record { holds = holds; exact = c.requires.lists.written } in
    (2, two c.args.numbers, filled)

pub returns-then-by_number : goal.returns-then-by_number
returns-then-by_number g c =
    let m = g.B.Blocks.blocks c.args.heap.now in
    let P : Shape → Type 0 = λ s. Holds m c.args.lists 0 (Times 2 s) (two c.args.numbers) in
    let holds = subst P (sym (list-shape c.args.layout.now c.requires.layout)) (two_hold m c.args.numbers c.args.lists c.requires.lists) in
    (c.free_elements.ensures.freed (two c.args.numbers) holds).replaced.live

pub returns-else-by_number : goal.returns-else-by_number
returns-else-by_number g c =
    let m = g.B.Blocks.blocks c.args.heap.now in
    let P : Shape → Type 0 = λ s. Holds m c.args.lists 0 (Times 2 s) (two c.args.numbers) in
    let holds = subst P (sym (list-shape c.args.layout.now c.requires.layout)) (two_hold m c.args.numbers c.args.lists c.requires.lists) in
    let filled : IsContents m c.args.lists (shape_in c.args.layout.now 1) 2 (two c.args.numbers) = record { holds = holds; exact = c.requires.lists.written } in
    (c.free_contents.ensures.freed 2 (two c.args.numbers) filled).replaced.live
