use Rattle.std.proofs.Common.{refl, arith}
use Rattle.std.proofs.lemmas.List.{take-map}
use Rattle.f3_data.proofs.Counts.{ended}
use Rattle.f3_data.proofs.store.Store.leave.Goals as goal

pub returns-then-level-len : goal.returns-then-level-len
returns-then-level-len c = simp (c.truncate.ensures.items, take-map) refl

pub invariant_of-self : goal.invariant_of-self
invariant_of-self c =
    let split = ended c.args.self.now.statics.items c.args.level c.args.self.now.levels.items in
    let inner = rw c.deref.ensures.value at c.levels_words-ended.ensures in
    record { counted = rw c.truncate.ensures.items (omega (arith, c.args.self.now.counted)) }
