use Rattle.std.proofs.Common.{ℕ, is_ok, sym, subst, ap, ◌∙◌, length}
use Rattle.std.specs.Prelude.{List}
use Rattle.f3_heap_laws.specs.Answers.{Answer, Took}
use Rattle.f3_desc.specs.Shape.{Times}
use Rattle.f3_desc.specs.Layout.{shape_in}
use Rattle.f3_objects.specs.Tree.{Tree, words}
use Rattle.f3_objects.specs.Copies.{Copies, faults}
use Rattle.f3_live_blocks.specs.Blocks.{Live, words_of}
use Rattle.f3_objects.specs.Holds.{IsContents}
use Rattle.f3_objects.specs.Copies.{Refills}
use Rattle.f3_heap_laws.specs.Answers.{Take}
use Rattle.f3_desc.specs.Shape.{Shape}
use Rattle.f3_objects.proofs.Spans.{written_whole}
use Rattle.f3_objects.proofs.Emptying.{copy_size, copy_holds, copy_free, source_stands, emptied_by, refuses}
use Rattle.f3_objects.proofs.Ending.{on_err, on_ok, when_ok}
use Rattle.f3_objects.proofs.Account.{used_copied}
use Rattle.f3_objects.proofs.elements.copy_contents.Goals as goal

-- the copy is all that its block holds
copy_contained : (old mid : Live) (from to : ℕ) (s : Shape) (n : ℕ) (t u : Tree) (faults : List Answer) → (r : Refills old from to s n t u) → {W : List Take → Type 0} → (c : Copies old mid to 0 (Times n s) t u faults W) → IsContents mid to s n c.copy
copy_contained old mid from to s n t u faults r c = record {
  holds = copy_holds old mid from 0 to 0 (Times n s) t u faults r.ready c;
  exact = c.replaced.written ∙ written_whole (words_of old to) (words c.copy) (ap length r.target ∙ sym (copy_size old mid from 0 to 0 (Times n s) t u faults r.ready c));
}

pub copy_inner-copied-requires-clause-ready : goal.copy_inner-copied-requires-clause-ready
copy_inner-copied-requires-clause-ready g c = let r = c.requires.ready in (r.0, r.1, r.2, r.3.ready, r.3.source)

pub free_inner-requires-clause-holds : goal.free_inner-requires-clause-holds
free_inner-requires-clause-holds g c =
    let r = c.requires.ready in
    let k = c.copy_inner-copied.ensures r.0 r.1 r.2 r.3.ready r.3.source in
    (r.0, k.copy, copy_contained (g.B.Blocks.blocks c.args.heap.now) (g.B.Blocks.blocks c.copy_inner-copied.new.heap) c.args.from c.args.to (shape_in c.args.layout.now c.args.of) r.0 r.1 r.2 (faults c.copy_inner-copied.result) r.3 k)

pub prove-unreachable-requires : goal.prove-unreachable-requires
prove-unreachable-requires g c =
    let s = shape_in c.args.layout.now c.args.of in
    let old = g.B.Blocks.blocks c.args.heap.now in
    let mid = g.B.Blocks.blocks c.copy_inner-copied.new.heap in
    let r = c.requires.ready in
    let k = c.copy_inner-copied.ensures r.0 r.1 r.2 r.3.ready r.3.source in
    let h = copy_contained old mid c.args.from c.args.to s r.0 r.1 r.2 (faults c.copy_inner-copied.result) r.3 k in
    let free = copy_free old mid c.args.from 0 c.args.to 0 (Times r.0 s) r.1 r.2 (faults c.copy_inner-copied.result) r.3.ready k in
    let f = (c.free_inner.ensures.freed r.0 k.copy h).answered in
    let given = c.is_ok-given.ensures.value in
    let not = c.if-prove.true in
    cc

pub returns-then-is_err-clause-emptied : goal.returns-then-is_err-clause-emptied
returns-then-is_err-clause-emptied g c = on_err c.copy_inner-copied.result _ (λ o n t u r.
    let s = shape_in c.args.layout.now c.args.of in
    let old = g.B.Blocks.blocks c.args.heap.now in
    let mid = g.B.Blocks.blocks c.copy_inner-copied.new.heap in
    let k = c.copy_inner-copied.ensures n t u r.ready r.source in
    let h = copy_contained old mid c.args.from c.args.to s n t u (faults c.copy_inner-copied.result) r k in
    (emptied_by old mid c.args.from 0 c.args.to 0 (Times n s) t u (faults c.copy_inner-copied.result) r.ready k (g.B.Blocks.blocks c.free_inner.new.heap) (is_ok c.free_inner.result) (c.free_inner.ensures.freed n k.copy h)).empty)

pub returns-then-is_err-clause-used_before : goal.returns-then-is_err-clause-used_before
returns-then-is_err-clause-used_before g c = on_err c.copy_inner-copied.result _ (λ o.
    let s = shape_in c.args.layout.now c.args.of in
    let old = g.B.Blocks.blocks c.args.heap.now in
    let mid = g.B.Blocks.blocks c.copy_inner-copied.new.heap in
    let r = c.requires.ready in
    let k = c.copy_inner-copied.ensures r.0 r.1 r.2 r.3.ready r.3.source in
    let h = copy_contained old mid c.args.from c.args.to s r.0 r.1 r.2 (faults c.copy_inner-copied.result) r.3 k in
    (emptied_by old mid c.args.from 0 c.args.to 0 (Times r.0 s) r.1 r.2 (faults c.copy_inner-copied.result) r.3.ready k (g.B.Blocks.blocks c.free_inner.new.heap) (is_ok c.free_inner.result) (c.free_inner.ensures.freed r.0 k.copy h)).used)

pub returns-then-is_err-clause-source : goal.returns-then-is_err-clause-source
returns-then-is_err-clause-source g c = λ n t u r.
    let s = shape_in c.args.layout.now c.args.of in
    let old = g.B.Blocks.blocks c.args.heap.now in
    let mid = g.B.Blocks.blocks c.copy_inner-copied.new.heap in
    let k = c.copy_inner-copied.ensures n t u r.ready r.source in
    let h = copy_contained old mid c.args.from c.args.to s n t u (faults c.copy_inner-copied.result) r k in
    (emptied_by old mid c.args.from 0 c.args.to 0 (Times n s) t u (faults c.copy_inner-copied.result) r.ready k (g.B.Blocks.blocks c.free_inner.new.heap) (is_ok c.free_inner.result) (c.free_inner.ensures.freed n k.copy h)).source

pub returns-then-is_err-clause-refused : goal.returns-then-is_err-clause-refused
returns-then-is_err-clause-refused g c = on_err c.copy_inner-copied.result _ (λ o n t u r.
    refuses (g.B.Blocks.blocks c.args.heap.now) (g.B.Blocks.blocks c.copy_inner-copied.new.heap) c.args.from 0 c.args.to 0 (Times n (shape_in c.args.layout.now c.args.of)) t u (faults c.copy_inner-copied.result) r.ready (c.copy_inner-copied.ensures n t u r.ready r.source) _ (λ ks w. record { allowed = w.allowed; turned = c.free_inner.ensures.kept ∙ w.turned }))

pub returns-else-is_err-clause-source : goal.returns-else-is_err-clause-source
returns-else-is_err-clause-source g c = λ n t u r.
    source_stands (g.B.Blocks.blocks c.args.heap.now) (g.B.Blocks.blocks c.copy_inner-copied.new.heap) c.args.from 0 c.args.to 0 (Times n (shape_in c.args.layout.now c.args.of)) t u (faults c.copy_inner-copied.result) r.ready (c.copy_inner-copied.ensures n t u r.ready r.source)

pub returns-else-is_err-clause-copied : goal.returns-else-is_err-clause-copied
returns-else-is_err-clause-copied g c =
    let old = g.B.Blocks.blocks c.args.heap.now in
    let mid = g.B.Blocks.blocks c.copy_inner-copied.new.heap in
    let s = shape_in c.args.layout.now c.args.of in
    let X = Took g.B.Blocks.allows g.B.Blocks.spent (g.B.Blocks.kept c.args.heap.now) (g.B.Blocks.kept c.copy_inner-copied.new.heap) old mid in
    let F : List Answer → Type 0 = λ fs. (n : ℕ) (t u : Tree) → Refills old c.args.from c.args.to s n t u → Copies old mid c.args.to 0 (Times n s) t u fs X in
    on_ok c.copy_inner-copied.result F (λ n t u r. c.copy_inner-copied.ensures n t u r.ready r.source)

pub returns-else-is_err-clause-used : goal.returns-else-is_err-clause-used
returns-else-is_err-clause-used g c =
    let s = shape_in c.args.layout.now c.args.of in
    let old = g.B.Blocks.blocks c.args.heap.now in
    let mid = g.B.Blocks.blocks c.copy_inner-copied.new.heap in
    let X = Took g.B.Blocks.allows g.B.Blocks.spent (g.B.Blocks.kept c.args.heap.now) (g.B.Blocks.kept c.copy_inner-copied.new.heap) old mid in
    when_ok c.copy_inner-copied.result _ (λ fine n t u r.
    let F : List Answer → Type 0 = λ fs. Copies old mid c.args.to 0 (Times n s) t u fs X in
    used_copied old mid c.args.from 0 c.args.to 0 (Times n s) t u r.ready (subst F fine (c.copy_inner-copied.ensures n t u r.ready r.source)))
