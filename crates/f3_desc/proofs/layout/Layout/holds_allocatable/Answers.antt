use Rattle.std.proofs.Common.{arith}
use Rattle.f3_desc.specs.Layout.{shapes}
use Rattle.f3_desc.proofs.Shapes.{marks_length, marks_read}
use Rattle.f3_desc.proofs.layout.Layout.holds_allocatable.Goals as goal

pub index-requires : goal.index-requires
index-requires c = omega (arith, marks_length c.args.self.now.holders.items c.args.self.now.pieces.items c.args.self.now.marked)

pub returns : goal.returns
unfolding shapes
returns c = marks_read c.args.self.now.holders.items c.args.self.now.pieces.items c.args.number c.index.result.now c.args.self.now.marked c.requires c.index.ensures
