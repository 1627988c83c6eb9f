use Rattle.std.proofs.Common.{refl, arith}
use Rattle.std.specs.List.{flat_map}
use Rattle.f3_kinds.specs.Rows.{scalar_rows}
use Rattle.f3_typed_parts.proofs.Noting.{noted_step, noted_done}
use Rattle.f3_typed_parts.proofs.operands.scalars.Goals as goal

pub loop-other-preserved : goal.loop-other-preserved
loop-other-preserved c =
    noted_step (scalar_rows c.args.wanted) c.args.others.now c.loop-other.other-index _ c.loop-other.first c.scalar.new.first _ c.loop-other-test.true c.scalar.ensures c.loop-other.invariant

pub returns : goal.returns
returns c = noted_done (flat_map (scalar_rows c.args.wanted)) c.args.others.now c.loop-other.other-index c.loop-other.first _ (omega (arith, c.loop-other-test.false)) refl c.loop-other.invariant
