use Rattle.std.proofs.Common.{◌≡◌, ◌-◌, ◌<◌, length, ap, ◌∙◌, arith, ℕ, []}
use Rattle.f3_desc.specs.Shape.{shapes_from, shape_at, width}
use Rattle.f3_desc.proofs.Shapes.{not_empty, table_length, table_read}
use Rattle.f3_desc.proofs.layout.Layout.words.Goals as goal

pub overflow_sub-len : goal.overflow_sub-len
overflow_sub-len c = omega (arith, not_empty c.args.self.now.pieces.items c.args.self.now.sound, table_length c.args.self.now.widths.items c.args.self.now.pieces.items c.args.self.now.sized)

pub index-requires : goal.index-requires
index-requires c = omega (arith, not_empty c.args.self.now.pieces.items c.args.self.now.sound, table_length c.args.self.now.widths.items c.args.self.now.pieces.items c.args.self.now.sized)

pub returns : goal.returns
returns c =
    let n = not_empty c.args.self.now.pieces.items c.args.self.now.sound in
    let t = table_length c.args.self.now.widths.items c.args.self.now.pieces.items c.args.self.now.sized in
    let same : c.len.result - 1 ≡ length c.args.self.now.pieces.items - 1 = omega arith in
    let below : c.len.result - 1 < length c.args.self.now.pieces.items = omega arith in
    table_read c.args.self.now.widths.items c.args.self.now.pieces.items (c.len.result - 1) c.index.result.now c.args.self.now.sized below c.index.ensures ∙ ap (λ (k : ℕ). width (shape_at (shapes_from [] c.args.self.now.pieces.items) k)) same
