use Rattle.f3_room_frames.proofs.Filling.{next_copy}
use Rattle.f3_room_frames.proofs.beginning.add_copies.Goals as goal

pub loop-each-preserved : goal.loop-each-preserved
loop-each-preserved c = next_copy c.args.words.now.items c.loop-each.words.items c.push.new.self.items c.loop-each._each _ c.loop-each.invariant c.in_ok-push.ensures.items
