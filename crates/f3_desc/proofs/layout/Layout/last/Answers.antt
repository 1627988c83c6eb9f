use Rattle.std.proofs.Common.{◌≡◌, ◌-◌, length, ap, arith, ℕ, []}
use Rattle.f3_desc.specs.Shape.{shapes_from, shape_at}
use Rattle.f3_desc.specs.Layout.{shapes}
use Rattle.f3_desc.proofs.layout.Layout.last.Goals as goal

pub returns-clause-shape : goal.returns-clause-shape
unfolding shapes
returns-clause-shape c =
    let same : c.len.result - 1 ≡ length c.args.self.now.pieces.items - 1 = omega arith in
    ap (λ (n : ℕ). shape_at (shapes_from [] c.args.self.now.pieces.items) n) same
