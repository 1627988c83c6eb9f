use Rattle.std.proofs.Common.{arith}
use Rattle.f3_data.specs.Values.{value_of}
use Rattle.f3_data.specs.Stores.{steps_of}
use Rattle.f3_data.proofs.Rows.{object_put}
use Rattle.f3_data.proofs.Counts.{one_exchanged}
use Rattle.f3_data.proofs.parts.exchange_in.Goals as goal

pub returns-then-i-len-clause-values : goal.returns-then-i-len-clause-values
returns-then-i-len-clause-values c = object_put _ _ (steps_of c.args.steps.now) (value_of c.args.other.now) _ _ (omega (arith, c.args.values.now.ok.0))
    c.index_mut.ensures.value c.exchange.ensures.value

pub returns-then-i-len-clause-words : goal.returns-then-i-len-clause-words
returns-then-i-len-clause-words c = one_exchanged _ _ _ _ _ _ (omega (arith, c.args.values.now.ok.0)) c.index_mut.ensures.value c.exchange.ensures.words
