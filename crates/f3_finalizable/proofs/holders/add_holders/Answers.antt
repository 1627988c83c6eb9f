use Rattle.std.proofs.Common.{arith}
use Rattle.f3_finalizable.specs.Inner.Holders.{rows_of}
use Rattle.f3_finalizable.proofs.Steps.{component_step}
use Rattle.f3_finalizable.proofs.holders.add_holders.Goals as goal

pub loop-place-preserved : goal.loop-place-preserved
loop-place-preserved c =
    component_step (rows_of c.loop-place.holders.items) (rows_of c.add_holder.new.holders.items) _ c.args.holder c.args.components.now.entries c.loop-place.place c.part_at-part.result (omega (arith, c.loop-place-test.true, c.len-place-end.ensures.len))
    c.part_at-part.ensures c.in_ok-add_holder.ensures c.loop-place.invariant
