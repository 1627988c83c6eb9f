use Rattle.f3_desc.specs.Layout.{shapes}
use Rattle.f3_desc.proofs.Shapes.{piece_read, names_read}
use Rattle.f3_desc.proofs.layout.Layout.piece.Goals as goal

pub returns-clause-shape : goal.returns-clause-shape
unfolding shapes
returns-clause-shape c = piece_read c.args.self.now.pieces.items c.args.number c.index.result.now c.args.self.now.sound c.requires c.index.ensures

pub returns-clause-earlier : goal.returns-clause-earlier
returns-clause-earlier c = names_read c.args.self.now.pieces.items c.args.number c.index.result.now c.args.self.now.sound c.requires c.index.ensures
