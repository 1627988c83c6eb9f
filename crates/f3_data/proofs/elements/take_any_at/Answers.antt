use Rattle.std.proofs.Common.{sym, arith}
use Rattle.f3_data.specs.Stores.{steps_of}
use Rattle.f3_data.proofs.Rows.{with_part_past, with_part_stands}
use Rattle.f3_data.proofs.Counts.{one_grown_in_row}
use Rattle.f3_data.proofs.elements.take_any_at.Goals as goal

pub returns-then-place-len-clause-values : goal.returns-then-place-len-clause-values
returns-then-place-len-clause-values c = with_part_stands _ _ (steps_of c.args.tail.now) _ c.index_mut.result.now _ (omega (arith, c.args.values.now.ok.0)) c.index_mut.ensures.value c.take.ensures.value

pub returns-then-place-len-clause-grown : goal.returns-then-place-len-clause-grown
returns-then-place-len-clause-grown c = one_grown_in_row _ _ _ _ _ (omega (arith, c.args.values.now.ok.0)) c.index_mut.ensures.value c.take.ensures.grown

pub returns-else-place-len-clause-values : goal.returns-else-place-len-clause-values
returns-else-place-len-clause-values c = sym (with_part_past _ _ _ _ (omega (arith, c.args.values.now.ok.0)))
