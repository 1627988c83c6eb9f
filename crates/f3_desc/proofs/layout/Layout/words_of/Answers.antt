use Rattle.std.proofs.Common.{arith}
use Rattle.f3_desc.specs.Layout.{shapes}
use Rattle.f3_desc.proofs.Shapes.{table_length, table_read}
use Rattle.f3_desc.proofs.layout.Layout.words_of.Goals as goal

pub index-requires : goal.index-requires
index-requires c = omega (arith, table_length c.args.self.now.widths.items c.args.self.now.pieces.items c.args.self.now.sized)

pub returns : goal.returns
unfolding shapes
returns c = table_read c.args.self.now.widths.items c.args.self.now.pieces.items c.args.number c.index.result.now c.args.self.now.sized c.requires c.index.ensures
