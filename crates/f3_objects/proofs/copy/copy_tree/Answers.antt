use Rattle.std.proofs.Common.{◌<◌, ◌+◌, ◌^◌, Bool, sym, subst, ◌∙◌}
use Rattle.std.specs.Prelude.{List}
use Rattle.f3_desc.specs.Shape.{Shape, width, whole}
use Rattle.f3_desc.specs.Layout.{pieces_of, shape_in}
use Rattle.f3_objects.specs.Tree.{Tree}
use Rattle.f3_objects.specs.Holds.{Holds, Frees}
use Rattle.f3_objects.specs.Copies.{Ready, Copies, faults}
use Rattle.f3_heap_laws.specs.Answers.{Answer, Took}
use Rattle.f3_objects.proofs.Emptying.{copy_holds, copy_free, source_stands, Emptied, empties, refuses}
use Rattle.f3_objects.proofs.Ending.{ends, on_err, on_ok, when_ok}
use Rattle.f3_objects.proofs.Account.{used_copied}
use Rattle.f3_objects.proofs.copy.copy_tree.Goals as goal

pub copy_piece-copied-requires-clause-from_bound : goal.copy_piece-copied-requires-clause-from_bound
copy_piece-copied-requires-clause-from_bound g c =
    let r = c.requires in
    let P : Shape → Type 0 = λ s. c.args.from_at + width s < 2 ^ 64 in
    subst P (sym c.last-last.ensures.shape) (ends (g.B.Blocks.blocks c.args.heap.now) c.args.from c.args.from_at (whole (pieces_of c.args.layout.now)) r.0 c.length.result (2 ^ 64) r.2.source c.length.ensures c.length.type_inv)

pub copy_piece-copied-requires-clause-to_bound : goal.copy_piece-copied-requires-clause-to_bound
copy_piece-copied-requires-clause-to_bound g c =
    let r = c.requires in
    let P : Shape → Type 0 = λ s. c.args.to_at + width s < 2 ^ 64 in
    subst P (sym c.last-last.ensures.shape) (ends (g.B.Blocks.blocks c.args.heap.now) c.args.to c.args.to_at (whole (pieces_of c.args.layout.now)) r.1 c.length-2.result (2 ^ 64) r.2.target c.length-2.ensures c.length-2.type_inv)

pub free_piece-requires-clause-holds : goal.free_piece-requires-clause-holds
free_piece-requires-clause-holds g c =
    let s = shape_in c.args.layout.now c.last-last.result in
    let old = g.B.Blocks.blocks c.args.heap.now in
    let mid = g.B.Blocks.blocks c.copy_piece-copied.new.heap in
    let P : Shape → Type 0 = λ s. Ready old c.args.from c.args.from_at c.args.to c.args.to_at s c.requires.0 c.requires.1 in
    let r = subst P (sym c.last-last.ensures.shape) c.requires.2 in
    let k = c.copy_piece-copied.ensures c.requires.0 c.requires.1 r in
    (k.copy, copy_holds old mid c.args.from c.args.from_at c.args.to c.args.to_at s c.requires.0 c.requires.1 (faults c.copy_piece-copied.result) r k)

pub free_piece-requires-clause-bound : goal.free_piece-requires-clause-bound
free_piece-requires-clause-bound g c =
    let r = c.requires in
    let P : Shape → Type 0 = λ s. c.args.to_at + width s < 2 ^ 64 in
    subst P (sym c.last-last.ensures.shape) (ends (g.B.Blocks.blocks c.args.heap.now) c.args.to c.args.to_at (whole (pieces_of c.args.layout.now)) r.1 c.length-2.result (2 ^ 64) r.2.target c.length-2.ensures c.length-2.type_inv)

pub prove-unreachable-requires-then-is_err : goal.prove-unreachable-requires-then-is_err
prove-unreachable-requires-then-is_err g c =
    let s = shape_in c.args.layout.now c.last-last.result in
    let old = g.B.Blocks.blocks c.args.heap.now in
    let mid = g.B.Blocks.blocks c.copy_piece-copied.new.heap in
    let P : Shape → Type 0 = λ s. Ready old c.args.from c.args.from_at c.args.to c.args.to_at s c.requires.0 c.requires.1 in
    let r = subst P (sym c.last-last.ensures.shape) c.requires.2 in
    let k = c.copy_piece-copied.ensures c.requires.0 c.requires.1 r in
    let h = copy_holds old mid c.args.from c.args.from_at c.args.to c.args.to_at s c.requires.0 c.requires.1 (faults c.copy_piece-copied.result) r k in
    let free = copy_free old mid c.args.from c.args.from_at c.args.to c.args.to_at s c.requires.0 c.requires.1 (faults c.copy_piece-copied.result) r k in
    let f = (c.free_piece.ensures.freed k.copy h).answered in
    let given = c.is_ok-given.ensures.value in
    let not = c.if-prove-3.true in
    cc

pub returns-then-is_err-clause-emptied : goal.returns-then-is_err-clause-emptied
returns-then-is_err-clause-emptied g c = on_err c.copy_piece-copied.result _ (λ o t u ready.
    let s = shape_in c.args.layout.now c.last-last.result in
    let old = g.B.Blocks.blocks c.args.heap.now in
    let mid = g.B.Blocks.blocks c.copy_piece-copied.new.heap in
    let new = g.B.Blocks.blocks c.free_piece.new.heap in
    let P : Shape → Type 0 = λ s. Ready old c.args.from c.args.from_at c.args.to c.args.to_at s t u in
    let r = subst P (sym c.last-last.ensures.shape) ready in
    let k = c.copy_piece-copied.ensures t u r in
    let h = copy_holds old mid c.args.from c.args.from_at c.args.to c.args.to_at s t u (faults c.copy_piece-copied.result) r k in
    let free = copy_free old mid c.args.from c.args.from_at c.args.to c.args.to_at s t u (faults c.copy_piece-copied.result) r k in
    let f = c.free_piece.ensures.freed k.copy h in
    let F : Bool → Type 0 = λ b. Frees mid new c.args.to c.args.to_at k.copy b in
    let Q : Shape → Type 0 = λ s. Emptied old new c.args.from c.args.from_at c.args.to c.args.to_at s t in
    let e = subst Q c.last-last.ensures.shape (empties old mid c.args.from c.args.from_at c.args.to c.args.to_at s t u (faults c.copy_piece-copied.result) r k new (subst F (f.answered ∙ free) f)) in
    e.empty)

pub returns-then-is_err-clause-used_before : goal.returns-then-is_err-clause-used_before
returns-then-is_err-clause-used_before g c = on_err c.copy_piece-copied.result _ (λ o.
    let t = c.requires.0 in
    let u = c.requires.1 in
    let ready = c.requires.2 in
    let s = shape_in c.args.layout.now c.last-last.result in
    let old = g.B.Blocks.blocks c.args.heap.now in
    let mid = g.B.Blocks.blocks c.copy_piece-copied.new.heap in
    let new = g.B.Blocks.blocks c.free_piece.new.heap in
    let P : Shape → Type 0 = λ s. Ready old c.args.from c.args.from_at c.args.to c.args.to_at s t u in
    let r = subst P (sym c.last-last.ensures.shape) ready in
    let k = c.copy_piece-copied.ensures t u r in
    let h = copy_holds old mid c.args.from c.args.from_at c.args.to c.args.to_at s t u (faults c.copy_piece-copied.result) r k in
    let free = copy_free old mid c.args.from c.args.from_at c.args.to c.args.to_at s t u (faults c.copy_piece-copied.result) r k in
    let f = c.free_piece.ensures.freed k.copy h in
    let F : Bool → Type 0 = λ b. Frees mid new c.args.to c.args.to_at k.copy b in
    let Q : Shape → Type 0 = λ s. Emptied old new c.args.from c.args.from_at c.args.to c.args.to_at s t in
    let e = subst Q c.last-last.ensures.shape (empties old mid c.args.from c.args.from_at c.args.to c.args.to_at s t u (faults c.copy_piece-copied.result) r k new (subst F (f.answered ∙ free) f)) in
    e.used)

pub returns-then-is_err-clause-source : goal.returns-then-is_err-clause-source
returns-then-is_err-clause-source g c = λ t u ready.
    let s = shape_in c.args.layout.now c.last-last.result in
    let old = g.B.Blocks.blocks c.args.heap.now in
    let mid = g.B.Blocks.blocks c.copy_piece-copied.new.heap in
    let new = g.B.Blocks.blocks c.free_piece.new.heap in
    let P : Shape → Type 0 = λ s. Ready old c.args.from c.args.from_at c.args.to c.args.to_at s t u in
    let r = subst P (sym c.last-last.ensures.shape) ready in
    let k = c.copy_piece-copied.ensures t u r in
    let h = copy_holds old mid c.args.from c.args.from_at c.args.to c.args.to_at s t u (faults c.copy_piece-copied.result) r k in
    let free = copy_free old mid c.args.from c.args.from_at c.args.to c.args.to_at s t u (faults c.copy_piece-copied.result) r k in
    let f = c.free_piece.ensures.freed k.copy h in
    let F : Bool → Type 0 = λ b. Frees mid new c.args.to c.args.to_at k.copy b in
    let Q : Shape → Type 0 = λ s. Emptied old new c.args.from c.args.from_at c.args.to c.args.to_at s t in
    let e = subst Q c.last-last.ensures.shape (empties old mid c.args.from c.args.from_at c.args.to c.args.to_at s t u (faults c.copy_piece-copied.result) r k new (subst F (f.answered ∙ free) f)) in
    e.source

pub returns-then-is_err-clause-refused : goal.returns-then-is_err-clause-refused
returns-then-is_err-clause-refused g c = on_err c.copy_piece-copied.result _ (λ o t u ready.
    let s = shape_in c.args.layout.now c.last-last.result in
    let old = g.B.Blocks.blocks c.args.heap.now in
    let mid = g.B.Blocks.blocks c.copy_piece-copied.new.heap in
    let P : Shape → Type 0 = λ s. Ready old c.args.from c.args.from_at c.args.to c.args.to_at s t u in
    let r = subst P (sym c.last-last.ensures.shape) ready in
    let k = c.copy_piece-copied.ensures t u r in
    refuses old mid c.args.from c.args.from_at c.args.to c.args.to_at s t u (faults c.copy_piece-copied.result) r k _ (λ ks w. record { allowed = w.allowed; turned = c.free_piece.ensures.kept ∙ w.turned }))

pub returns-else-is_err-clause-source : goal.returns-else-is_err-clause-source
returns-else-is_err-clause-source g c = λ t u ready.
    let s = shape_in c.args.layout.now c.last-last.result in
    let old = g.B.Blocks.blocks c.args.heap.now in
    let mid = g.B.Blocks.blocks c.copy_piece-copied.new.heap in
    let P : Shape → Type 0 = λ s. Ready old c.args.from c.args.from_at c.args.to c.args.to_at s t u in
    let r = subst P (sym c.last-last.ensures.shape) ready in
    let k = c.copy_piece-copied.ensures t u r in
    let Q : Shape → Type 0 = λ s. Holds mid c.args.from c.args.from_at s t in
    subst Q c.last-last.ensures.shape (source_stands old mid c.args.from c.args.from_at c.args.to c.args.to_at s t u (faults c.copy_piece-copied.result) r k)

pub returns-else-is_err-clause-copied : goal.returns-else-is_err-clause-copied
returns-else-is_err-clause-copied g c =
    let old = g.B.Blocks.blocks c.args.heap.now in
    let mid = g.B.Blocks.blocks c.copy_piece-copied.new.heap in
    let all = whole (pieces_of c.args.layout.now) in
    let X = Took g.B.Blocks.allows g.B.Blocks.spent (g.B.Blocks.kept c.args.heap.now) (g.B.Blocks.kept c.copy_piece-copied.new.heap) old mid in
    let F : List Answer → Type 0 = λ fs. (t u : Tree) → Ready old c.args.from c.args.from_at c.args.to c.args.to_at all t u → Copies old mid c.args.to c.args.to_at all t u fs X in
    on_ok c.copy_piece-copied.result F (λ t u ready.
    let P : Shape → Type 0 = λ s. Ready old c.args.from c.args.from_at c.args.to c.args.to_at s t u in
    let Q : Shape → Type 0 = λ s. Copies old mid c.args.to c.args.to_at s t u (faults c.copy_piece-copied.result) X in
    subst Q c.last-last.ensures.shape (c.copy_piece-copied.ensures t u (subst P (sym c.last-last.ensures.shape) ready)))

pub returns-else-is_err-clause-used : goal.returns-else-is_err-clause-used
returns-else-is_err-clause-used g c =
    let s = shape_in c.args.layout.now c.last-last.result in
    let old = g.B.Blocks.blocks c.args.heap.now in
    let mid = g.B.Blocks.blocks c.copy_piece-copied.new.heap in
    let X = Took g.B.Blocks.allows g.B.Blocks.spent (g.B.Blocks.kept c.args.heap.now) (g.B.Blocks.kept c.copy_piece-copied.new.heap) old mid in
    when_ok c.copy_piece-copied.result _ (λ fine t u ready.
    let P : Shape → Type 0 = λ s. Ready old c.args.from c.args.from_at c.args.to c.args.to_at s t u in
    let r = subst P (sym c.last-last.ensures.shape) ready in
    let F : List Answer → Type 0 = λ fs. Copies old mid c.args.to c.args.to_at s t u fs X in
    used_copied old mid c.args.from c.args.from_at c.args.to c.args.to_at s t u r (subst F fine (c.copy_piece-copied.ensures t u r)))
