use Rattle.std.proofs.Common.{arith, refl}
use Rattle.f3_room_frames.proofs.LayoutLaws.{found_layout, lacks_layout, no_procedure}
use Rattle.f3_room_frames.proofs.layouts.Layouts.of.Goals as goal

pub returns-then-number-len : goal.returns-then-number-len
returns-then-number-len c = λ can. no_procedure c.args.self.now.program.now c.args.self.now.statics c.args.self.now.main c.args.self.now.procedures.items c.args.self.now.procedures.items
    c.args.procedure c.in-Some.number c.args.self.now.laid c.in-Some.is refl (omega arith)

pub returns-in-Some-index : goal.returns-in-Some-index
returns-in-Some-index c = found_layout c.args.self.now.program.now c.args.self.now.statics c.args.self.now.main c.args.self.now.procedures.items c.args.self.now.procedures.items
    c.args.procedure c.in-Some.number c.args.self.now.laid c.in-Some.is refl c.index.result.now c.in-Some-index.layout (omega arith) c.index.ensures c.in-Some-index.is

pub returns-in-None : goal.returns-in-None
returns-in-None c = λ can. absurd (lacks_layout c.args.self.now.program.now c.args.self.now.statics c.args.self.now.main c.args.self.now.procedures.items c.args.self.now.procedures.items
    c.args.procedure c.in-Some.number c.args.self.now.laid c.in-Some.is refl c.index.result.now (omega arith) c.index.ensures c.in-None.is can)
