use Rattle.std.proofs.Common.{arith}
use Rattle.f3_meaning_whole.specs.Arithmetic.{constant_value}
use Rattle.f3_data.specs.Stores.{element_steps}
use Rattle.f3_data.proofs.Rows.{object_put}
use Rattle.f3_data.proofs.Counts.{one_grown}
use Rattle.f3_data.proofs.parts.set_element_in.Goals as goal

pub returns-then-i-len-clause-values : goal.returns-then-i-len-clause-values
returns-then-i-len-clause-values c = object_put _ _ (element_steps c.args.is_opened c.args.k) (constant_value c.args.scalar) _ _ (omega (arith, c.args.values.now.ok.0))
    c.index_mut.ensures.value c.set_element.ensures.value

pub returns-then-i-len-clause-grown : goal.returns-then-i-len-clause-grown
returns-then-i-len-clause-grown c = one_grown _ _ _ _ _ (omega (arith, c.args.values.now.ok.0)) c.index_mut.ensures.value c.set_element.ensures.grown
