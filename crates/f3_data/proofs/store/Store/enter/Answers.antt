use Rattle.std.proofs.Common.{arith}
use Rattle.f3_data.proofs.Counts.{entered}
use Rattle.f3_data.proofs.store.Store.enter.Goals as goal

pub invariant_of-self-2 : goal.invariant_of-self-2
invariant_of-self-2 c =
    let begun = entered c.args.self.now.statics.items c.args.self.now.levels.items c.args.values in
    let inner = rw c.deref.ensures.value at c.level_words-words.ensures in
    record { counted = rw c.in_ok-push.ensures.items (omega (arith, c.args.self.now.counted)) }
