use Rattle.std.proofs.Common.{◌≡◌, Bool, is_ok, ap, sym, subst, arith}
use Rattle.f3_desc.specs.Shape.{Shape, width, whole}
use Rattle.f3_desc.specs.Layout.{pieces_of}
use Rattle.f3_objects.specs.Holds.{Holds, Frees}
use Rattle.f3_objects.proofs.Trees.{size-fits}
use Rattle.f3_objects.proofs.Freeing.{frees_unpinned, frees_gives, on_ok}
use Rattle.f3_objects.proofs.Account.{used_left, used_freed}
use Rattle.f3_objects.proofs.free.free_tree.Goals as goal

pub free_piece-requires-clause-bound : goal.free_piece-requires-clause-bound
free_piece-requires-clause-bound g c =
    let h = c.requires in
    let size = size-fits (whole (pieces_of c.args.layout.now)) h.0 h.1.fits in
    let same : width (whole (pieces_of c.args.layout.now)) ≡ width _ = ap width (sym c.last.ensures.shape) in
    let within = h.1.stands.within in
    omega (arith, c.length.ensures, c.length.type_inv)

pub returns-clause-unpinned : goal.returns-clause-unpinned
returns-clause-unpinned g c = λ t h.
    let P : Shape → Type 0 = λ s. Holds (g.B.Blocks.blocks c.args.heap.now) c.args.block c.args.at s t in
    frees_unpinned (g.B.Blocks.blocks c.args.heap.now) (g.B.Blocks.blocks c.free_piece.new.heap) c.args.block c.args.at t (is_ok c.free_piece.result) (c.free_piece.ensures.freed t (subst P (sym c.last.ensures.shape) h))

pub returns-clause-given : goal.returns-clause-given
returns-clause-given g c = on_ok c.free_piece.result _ (λ e t h.
    let P : Shape → Type 0 = λ s. Holds (g.B.Blocks.blocks c.args.heap.now) c.args.block c.args.at s t in
    let f = c.free_piece.ensures.freed t (subst P (sym c.last.ensures.shape) h) in
    frees_gives (g.B.Blocks.blocks c.args.heap.now) (g.B.Blocks.blocks c.free_piece.new.heap) c.args.block c.args.at t (let Q : Bool → Type 0 = λ k. Frees (g.B.Blocks.blocks c.args.heap.now) (g.B.Blocks.blocks c.free_piece.new.heap) c.args.block c.args.at t k in subst Q e f))

pub returns-clause-used : goal.returns-clause-used
returns-clause-used g c = on_ok c.free_piece.result _ (λ e t h.
    let P : Shape → Type 0 = λ s. Holds (g.B.Blocks.blocks c.args.heap.now) c.args.block c.args.at s t in
    used_freed (g.B.Blocks.blocks c.args.heap.now) (g.B.Blocks.blocks c.free_piece.new.heap) c.args.block c.args.at t h.stands (is_ok c.free_piece.result) (c.free_piece.ensures.freed t (subst P (sym c.last.ensures.shape) h)) e)

pub returns-clause-used_left : goal.returns-clause-used_left
returns-clause-used_left g c = λ t h.
    let P : Shape → Type 0 = λ s. Holds (g.B.Blocks.blocks c.args.heap.now) c.args.block c.args.at s t in
    used_left (g.B.Blocks.blocks c.args.heap.now) (g.B.Blocks.blocks c.free_piece.new.heap) c.args.block c.args.at t h.stands (is_ok c.free_piece.result) (c.free_piece.ensures.freed t (subst P (sym c.last.ensures.shape) h))
