use Rattle.std.proofs.Common.{[], sym, arith}
use Rattle.f3_data.proofs.Rows.{with_part_past, with_part_within}
use Rattle.f3_data.proofs.Counts.{one_grown_in_row}
use Rattle.f3_data.proofs.parts.become_at.Goals as goal

pub returns-then-k-len-clause-values : goal.returns-then-k-len-clause-values
returns-then-k-len-clause-values c = with_part_within _ _ [] _ c.index_mut.result.now _ (omega (arith, c.args.values.now.ok.0)) c.become_scalar.ensures.value

pub returns-then-k-len-clause-grown : goal.returns-then-k-len-clause-grown
returns-then-k-len-clause-grown c = one_grown_in_row _ _ _ _ _ (omega (arith, c.args.values.now.ok.0)) c.index_mut.ensures.value c.become_scalar.ensures.grown

pub returns-else-k-len-clause-values : goal.returns-else-k-len-clause-values
returns-else-k-len-clause-values c = sym (with_part_past _ _ _ _ (omega (arith, c.args.values.now.ok.0)))
