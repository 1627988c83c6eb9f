use Rattle.std.proofs.Common.{take, sym, subst}
use Rattle.f3_rooms.specs.Forms.{total}
use Rattle.f3_sizes.specs.Words.{AreWords}
use Rattle.f3_sizes.proofs.Rows.{total_more}
use Rattle.f3_sizes.proofs.words.row.Goals as goal

pub loop-one-preserved : goal.loop-one-preserved
loop-one-preserved c = λ ts have.
    subst (λ n. AreWords c.behind-words.result n) (sym (total_more ts c.args.declared.now c.loop-one.one-index c.one-item.result c.loop-one-test.true c.one-item.is))
    (c.behind-words.ensures ts (total ts (take c.loop-one.one-index c.args.declared.now)) have (c.loop-one.invariant ts have))
