use Rattle.std.proofs.Common.{arith}
use Rattle.f3_data.proofs.Counts.{levels_more}
use Rattle.f3_data.proofs.account.levels_words.Goals as goal

pub loop-values-preserved : goal.loop-values-preserved
loop-values-preserved c =
    let more = levels_more c.args.levels.now c.loop-values.values-index c.values-item.result c.loop-values-test.true c.values-item.is in
    let inner = rw c.deref.ensures.value at c.level_words.ensures in
    omega arith
