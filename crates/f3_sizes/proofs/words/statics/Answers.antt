use Rattle.std.proofs.Common.{take, map, sym, subst}
use Rattle.f3_program.specs.declared.program.Static.{Static}
use Rattle.f3_rooms.specs.Forms.{total}
use Rattle.f3_sizes.specs.Words.{AreWords}
use Rattle.f3_sizes.proofs.Rows.{static_more}
use Rattle.f3_sizes.proofs.words.statics.Goals as goal

pub loop-one-preserved : goal.loop-one-preserved
loop-one-preserved c = λ ts have.
    let xs = c.deref-one-items.result.now in
    subst (λ n. AreWords c.behind-words.result n) (sym (static_more ts xs c.loop-one.one-index c.one-item.result c.loop-one-test.true c.one-item.is))
    (c.behind-words.ensures ts (total ts (take c.loop-one.one-index (map (λ (x : Static). x.declared) xs))) have (c.loop-one.invariant ts have))
