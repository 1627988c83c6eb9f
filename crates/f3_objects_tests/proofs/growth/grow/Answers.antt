use Rattle.std.proofs.Common.{◌≡◌, ap, sym, arith}
use Rattle.f3_desc.specs.Shape.{width, whole}
use Rattle.f3_desc.specs.Layout.{pieces_of}
use Rattle.f3_objects.proofs.Trees.{size-fits}
use Rattle.f3_objects_tests.proofs.growth.grow.Goals as goal

pub grow_piece-requires-clause-bound : goal.grow_piece-requires-clause-bound
grow_piece-requires-clause-bound g c =
    let h = c.requires in
    let size = size-fits (whole (pieces_of c.args.layout.now)) h.0 h.1.fits in
    let same : width (whole (pieces_of c.args.layout.now)) ≡ width _ = ap width (sym c.last.ensures.shape) in
    let within = h.1.stands.within in
    omega (arith, c.length.ensures, c.length.type_inv)
