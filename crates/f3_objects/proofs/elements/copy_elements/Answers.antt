use Rattle.std.proofs.Common.{◌^◌, is_ok, subst, ◌∙◌}
use Rattle.std.specs.Prelude.{List}
use Rattle.f3_heap_laws.specs.Answers.{Answer, Took}
use Rattle.f3_desc.specs.Shape.{Times}
use Rattle.f3_desc.specs.Layout.{shape_in}
use Rattle.f3_objects.specs.Tree.{Tree}
use Rattle.f3_objects.specs.Copies.{Ready, Copies, faults}
use Rattle.f3_objects.proofs.Emptying.{copy_holds, copy_free, source_stands, emptied_by, refuses}
use Rattle.f3_objects.proofs.Ending.{ends, on_err, on_ok, when_ok}
use Rattle.f3_objects.proofs.Account.{used_copied}
use Rattle.f3_objects.proofs.elements.copy_elements.Goals as goal

pub copy_repeats-copied-requires-clause-from_bound : goal.copy_repeats-copied-requires-clause-from_bound
copy_repeats-copied-requires-clause-from_bound g c =
    let r = c.requires.ready in
    ends (g.B.Blocks.blocks c.args.heap.now) c.args.from c.args.from_at (Times c.args.count (shape_in c.args.layout.now c.args.of)) r.0 c.length.result (2 ^ 64) r.2.source c.length.ensures c.length.type_inv

pub copy_repeats-copied-requires-clause-to_bound : goal.copy_repeats-copied-requires-clause-to_bound
copy_repeats-copied-requires-clause-to_bound g c =
    let r = c.requires.ready in
    ends (g.B.Blocks.blocks c.args.heap.now) c.args.to c.args.to_at (Times c.args.count (shape_in c.args.layout.now c.args.of)) r.1 c.length-2.result (2 ^ 64) r.2.target c.length-2.ensures c.length-2.type_inv

pub free_repeats-requires-clause-holds : goal.free_repeats-requires-clause-holds
free_repeats-requires-clause-holds g c =
    let r = c.requires.ready in
    let k = c.copy_repeats-copied.ensures r.0 r.1 r.2 in
    (k.copy, copy_holds (g.B.Blocks.blocks c.args.heap.now) (g.B.Blocks.blocks c.copy_repeats-copied.new.heap) c.args.from c.args.from_at c.args.to c.args.to_at (Times c.args.count (shape_in c.args.layout.now c.args.of)) r.0 r.1 (faults c.copy_repeats-copied.result) r.2 k)

pub free_repeats-requires-clause-bound : goal.free_repeats-requires-clause-bound
free_repeats-requires-clause-bound g c =
    let r = c.requires.ready in
    ends (g.B.Blocks.blocks c.args.heap.now) c.args.to c.args.to_at (Times c.args.count (shape_in c.args.layout.now c.args.of)) r.1 c.length-2.result (2 ^ 64) r.2.target c.length-2.ensures c.length-2.type_inv

pub prove-unreachable-requires-then-is_err : goal.prove-unreachable-requires-then-is_err
prove-unreachable-requires-then-is_err g c =
    let s = Times c.args.count (shape_in c.args.layout.now c.args.of) in
    let old = g.B.Blocks.blocks c.args.heap.now in
    let mid = g.B.Blocks.blocks c.copy_repeats-copied.new.heap in
    let r = c.requires.ready in
    let k = c.copy_repeats-copied.ensures r.0 r.1 r.2 in
    let h = copy_holds old mid c.args.from c.args.from_at c.args.to c.args.to_at s r.0 r.1 (faults c.copy_repeats-copied.result) r.2 k in
    let free = copy_free old mid c.args.from c.args.from_at c.args.to c.args.to_at s r.0 r.1 (faults c.copy_repeats-copied.result) r.2 k in
    let f = (c.free_repeats.ensures.freed k.copy h).answered in
    let given = c.is_ok-given.ensures.value in
    let not = c.if-prove-3.true in
    cc

pub returns-then-is_err-clause-emptied : goal.returns-then-is_err-clause-emptied
returns-then-is_err-clause-emptied g c = on_err c.copy_repeats-copied.result _ (λ o t u r.
    let s = Times c.args.count (shape_in c.args.layout.now c.args.of) in
    let old = g.B.Blocks.blocks c.args.heap.now in
    let mid = g.B.Blocks.blocks c.copy_repeats-copied.new.heap in
    let k = c.copy_repeats-copied.ensures t u r in
    let h = copy_holds old mid c.args.from c.args.from_at c.args.to c.args.to_at s t u (faults c.copy_repeats-copied.result) r k in
    (emptied_by old mid c.args.from c.args.from_at c.args.to c.args.to_at s t u (faults c.copy_repeats-copied.result) r k (g.B.Blocks.blocks c.free_repeats.new.heap) (is_ok c.free_repeats.result) (c.free_repeats.ensures.freed k.copy h)).empty)

pub returns-then-is_err-clause-used_before : goal.returns-then-is_err-clause-used_before
returns-then-is_err-clause-used_before g c = on_err c.copy_repeats-copied.result _ (λ o.
    let s = Times c.args.count (shape_in c.args.layout.now c.args.of) in
    let old = g.B.Blocks.blocks c.args.heap.now in
    let mid = g.B.Blocks.blocks c.copy_repeats-copied.new.heap in
    let r = c.requires.ready in
    let k = c.copy_repeats-copied.ensures r.0 r.1 r.2 in
    let h = copy_holds old mid c.args.from c.args.from_at c.args.to c.args.to_at s r.0 r.1 (faults c.copy_repeats-copied.result) r.2 k in
    (emptied_by old mid c.args.from c.args.from_at c.args.to c.args.to_at s r.0 r.1 (faults c.copy_repeats-copied.result) r.2 k (g.B.Blocks.blocks c.free_repeats.new.heap) (is_ok c.free_repeats.result) (c.free_repeats.ensures.freed k.copy h)).used)

pub returns-then-is_err-clause-source : goal.returns-then-is_err-clause-source
returns-then-is_err-clause-source g c = λ t u r.
    let s = Times c.args.count (shape_in c.args.layout.now c.args.of) in
    let old = g.B.Blocks.blocks c.args.heap.now in
    let mid = g.B.Blocks.blocks c.copy_repeats-copied.new.heap in
    let k = c.copy_repeats-copied.ensures t u r in
    let h = copy_holds old mid c.args.from c.args.from_at c.args.to c.args.to_at s t u (faults c.copy_repeats-copied.result) r k in
    (emptied_by old mid c.args.from c.args.from_at c.args.to c.args.to_at s t u (faults c.copy_repeats-copied.result) r k (g.B.Blocks.blocks c.free_repeats.new.heap) (is_ok c.free_repeats.result) (c.free_repeats.ensures.freed k.copy h)).source

pub returns-then-is_err-clause-refused : goal.returns-then-is_err-clause-refused
returns-then-is_err-clause-refused g c = on_err c.copy_repeats-copied.result _ (λ o t u r.
    refuses (g.B.Blocks.blocks c.args.heap.now) (g.B.Blocks.blocks c.copy_repeats-copied.new.heap) c.args.from c.args.from_at c.args.to c.args.to_at (Times c.args.count (shape_in c.args.layout.now c.args.of)) t u (faults c.copy_repeats-copied.result) r (c.copy_repeats-copied.ensures t u r) _ (λ ks w. record { allowed = w.allowed; turned = c.free_repeats.ensures.kept ∙ w.turned }))

pub returns-else-is_err-clause-source : goal.returns-else-is_err-clause-source
returns-else-is_err-clause-source g c = λ t u r.
    source_stands (g.B.Blocks.blocks c.args.heap.now) (g.B.Blocks.blocks c.copy_repeats-copied.new.heap) c.args.from c.args.from_at c.args.to c.args.to_at (Times c.args.count (shape_in c.args.layout.now c.args.of)) t u (faults c.copy_repeats-copied.result) r (c.copy_repeats-copied.ensures t u r)

pub returns-else-is_err-clause-copied : goal.returns-else-is_err-clause-copied
returns-else-is_err-clause-copied g c =
    let old = g.B.Blocks.blocks c.args.heap.now in
    let mid = g.B.Blocks.blocks c.copy_repeats-copied.new.heap in
    let s = Times c.args.count (shape_in c.args.layout.now c.args.of) in
    let X = Took g.B.Blocks.allows g.B.Blocks.spent (g.B.Blocks.kept c.args.heap.now) (g.B.Blocks.kept c.copy_repeats-copied.new.heap) old mid in
    let F : List Answer → Type 0 = λ fs. (t u : Tree) → Ready old c.args.from c.args.from_at c.args.to c.args.to_at s t u → Copies old mid c.args.to c.args.to_at s t u fs X in
    on_ok c.copy_repeats-copied.result F c.copy_repeats-copied.ensures

pub returns-else-is_err-clause-used : goal.returns-else-is_err-clause-used
returns-else-is_err-clause-used g c =
    let s = Times c.args.count (shape_in c.args.layout.now c.args.of) in
    let old = g.B.Blocks.blocks c.args.heap.now in
    let mid = g.B.Blocks.blocks c.copy_repeats-copied.new.heap in
    let X = Took g.B.Blocks.allows g.B.Blocks.spent (g.B.Blocks.kept c.args.heap.now) (g.B.Blocks.kept c.copy_repeats-copied.new.heap) old mid in
    when_ok c.copy_repeats-copied.result _ (λ fine t u r.
    let F : List Answer → Type 0 = λ fs. Copies old mid c.args.to c.args.to_at s t u fs X in
    used_copied old mid c.args.from c.args.from_at c.args.to c.args.to_at s t u r (subst F fine (c.copy_repeats-copied.ensures t u r)))
