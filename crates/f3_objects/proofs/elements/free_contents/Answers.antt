use Rattle.std.proofs.Common.{Bool, is_ok, subst}
use Rattle.f3_objects.specs.Holds.{Frees}
use Rattle.f3_objects.proofs.Freeing.{frees_unpinned, frees_gives, on_ok}
use Rattle.f3_objects.proofs.Account.{used_left, used_freed}
use Rattle.f3_objects.proofs.elements.free_contents.Goals as goal

pub returns-clause-unpinned : goal.returns-clause-unpinned
returns-clause-unpinned g c = λ n t h.
    frees_unpinned (g.B.Blocks.blocks c.args.heap.now) (g.B.Blocks.blocks c.free_inner.new.heap) c.args.block 0 t (is_ok c.free_inner.result) (c.free_inner.ensures.freed n t h)

pub returns-clause-given : goal.returns-clause-given
returns-clause-given g c = on_ok c.free_inner.result _ (λ e n t h.
    let Q : Bool → Type 0 = λ k. Frees (g.B.Blocks.blocks c.args.heap.now) (g.B.Blocks.blocks c.free_inner.new.heap) c.args.block 0 t k in
    frees_gives (g.B.Blocks.blocks c.args.heap.now) (g.B.Blocks.blocks c.free_inner.new.heap) c.args.block 0 t (subst Q e (c.free_inner.ensures.freed n t h)))

pub returns-clause-used : goal.returns-clause-used
returns-clause-used g c = on_ok c.free_inner.result _ (λ e n t h.
    used_freed (g.B.Blocks.blocks c.args.heap.now) (g.B.Blocks.blocks c.free_inner.new.heap) c.args.block 0 t h.holds.stands (is_ok c.free_inner.result) (c.free_inner.ensures.freed n t h) e)

pub returns-clause-used_left : goal.returns-clause-used_left
returns-clause-used_left g c = λ n t h.
    used_left (g.B.Blocks.blocks c.args.heap.now) (g.B.Blocks.blocks c.free_inner.new.heap) c.args.block 0 t h.holds.stands (is_ok c.free_inner.result) (c.free_inner.ensures.freed n t h)
