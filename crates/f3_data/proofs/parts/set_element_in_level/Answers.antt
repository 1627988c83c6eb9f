use Rattle.std.proofs.Common.{arith}
use Rattle.f3_meaning_whole.specs.Arithmetic.{constant_value}
use Rattle.f3_data.specs.Stores.{element_steps}
use Rattle.f3_data.proofs.Rows.{level_put}
use Rattle.f3_data.proofs.Counts.{level_grown}
use Rattle.f3_data.proofs.parts.set_element_in_level.Goals as goal

pub returns-then-level-len-clause-levels : goal.returns-then-level-len-clause-levels
returns-then-level-len-clause-levels c = level_put _ _ _ (element_steps c.args.is_opened c.args.k) (constant_value c.args.scalar) _ _ (omega (arith, c.args.levels.now.ok.0))
    c.index_mut.ensures.value c.set_element_in.ensures.values

pub returns-then-level-len-clause-grown : goal.returns-then-level-len-clause-grown
returns-then-level-len-clause-grown c = level_grown _ _ _ _ _ (omega (arith, c.args.levels.now.ok.0)) c.index_mut.ensures.value c.set_element_in.ensures.grown
