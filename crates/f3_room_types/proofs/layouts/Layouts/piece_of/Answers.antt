use Rattle.f3_desc.specs.Layout.{piece_count}
use Rattle.f3_room_types.proofs.layouts.Layouts.piece_of.Goals as goal

pub returns-clause-within : goal.returns-clause-within
returns-clause-within c = c.number_of.ensures.within (piece_count c.args.self.now.layout) c.args.self.now.some (rw c.deref.ensures.value c.args.self.now.within)
