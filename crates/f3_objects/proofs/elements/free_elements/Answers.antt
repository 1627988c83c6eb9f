use Rattle.std.proofs.Common.{Bool, is_ok, subst, arith}
use Rattle.f3_desc.specs.Shape.{Times}
use Rattle.f3_desc.specs.Layout.{shape_in}
use Rattle.f3_objects.specs.Holds.{Frees}
use Rattle.f3_objects.proofs.Trees.{size-fits}
use Rattle.f3_objects.proofs.Freeing.{frees_unpinned, frees_gives, on_ok}
use Rattle.f3_objects.proofs.Account.{used_left, used_freed}
use Rattle.f3_objects.proofs.elements.free_elements.Goals as goal

pub free_repeats-requires-clause-bound : goal.free_repeats-requires-clause-bound
free_repeats-requires-clause-bound g c =
    let h = c.requires.holds in
    let size = size-fits (Times c.args.count (shape_in c.args.layout.now c.args.of)) h.0 h.1.fits in
    let within = h.1.stands.within in
    omega (arith, c.length.ensures, c.length.type_inv)

pub returns-clause-unpinned : goal.returns-clause-unpinned
returns-clause-unpinned g c = λ t h.
    frees_unpinned (g.B.Blocks.blocks c.args.heap.now) (g.B.Blocks.blocks c.free_repeats.new.heap) c.args.block c.args.at t (is_ok c.free_repeats.result) (c.free_repeats.ensures.freed t h)

pub returns-clause-given : goal.returns-clause-given
returns-clause-given g c = on_ok c.free_repeats.result _ (λ e t h.
    let Q : Bool → Type 0 = λ k. Frees (g.B.Blocks.blocks c.args.heap.now) (g.B.Blocks.blocks c.free_repeats.new.heap) c.args.block c.args.at t k in
    frees_gives (g.B.Blocks.blocks c.args.heap.now) (g.B.Blocks.blocks c.free_repeats.new.heap) c.args.block c.args.at t (subst Q e (c.free_repeats.ensures.freed t h)))

pub returns-clause-used : goal.returns-clause-used
returns-clause-used g c = on_ok c.free_repeats.result _ (λ e t h.
    used_freed (g.B.Blocks.blocks c.args.heap.now) (g.B.Blocks.blocks c.free_repeats.new.heap) c.args.block c.args.at t h.stands (is_ok c.free_repeats.result) (c.free_repeats.ensures.freed t h) e)

pub returns-clause-used_left : goal.returns-clause-used_left
returns-clause-used_left g c = λ t h.
    used_left (g.B.Blocks.blocks c.args.heap.now) (g.B.Blocks.blocks c.free_repeats.new.heap) c.args.block c.args.at t h.stands (is_ok c.free_repeats.result) (c.free_repeats.ensures.freed t h)
