use Rattle.std.proofs.Common.{arith}
use Rattle.f3_data.specs.Values.{value_of}
use Rattle.f3_data.specs.Stores.{steps_of}
use Rattle.f3_data.proofs.Rows.{level_put}
use Rattle.f3_data.proofs.Counts.{level_exchanged}
use Rattle.f3_data.proofs.parts.exchange_in_level.Goals as goal

pub returns-then-level-len-clause-levels : goal.returns-then-level-len-clause-levels
returns-then-level-len-clause-levels c = level_put _ _ _ (steps_of c.args.steps.now) (value_of c.args.other.now) _ _ (omega (arith, c.args.levels.now.ok.0))
    c.index_mut.ensures.value c.exchange_in.ensures.values

pub returns-then-level-len-clause-words : goal.returns-then-level-len-clause-words
returns-then-level-len-clause-words c = level_exchanged _ _ _ _ _ _ (omega (arith, c.args.levels.now.ok.0)) c.index_mut.ensures.value c.exchange_in.ensures.words
