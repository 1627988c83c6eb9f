use Rattle.f3_declared.proofs.Finalizing.{may_same}
use Rattle.f3_declared.proofs.specifiers.may_finalize.Goals as goal

pub returns : goal.returns
returns c = λ scene.
    may_same _ _ _ _ _ _ _ _ _ _ _ c.both-2.ensures c.either-may.ensures c.both.ensures (c.is_result-outcome.ensures scene) (c.is_dummy-dummy.ensures scene) c.is_in-only_read.ensures c.requires.intent
