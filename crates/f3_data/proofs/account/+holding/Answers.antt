use Rattle.std.proofs.Common.{arith}
use Rattle.f3_data.proofs.Counts.{objects_more, array_objects}
use Rattle.f3_data.proofs.account.+holding.Goals as goal
use Rattle.f3_data.proofs.account.+holding.Goals.{all_objects-then-not-holds_nothing, all_objects-else-not-holds_nothing}

pub all_objects-loop-value-preserved : goal.all_objects-loop-value-preserved
all_objects-loop-value-preserved t c =
    let more = objects_more c.args.values.now c.loop-value.value-index c.value-item.result c.loop-value-test.true c.value-item.is in
    elim c.if-not-holds_nothing.branch [ all_objects-then-not-holds_nothing w ↦ omega arith | all_objects-else-not-holds_nothing w ↦ omega arith ]

pub objects-returns-in-Array : goal.objects-returns-in-Array
objects-returns-in-Array t c = rw (c.in-Array.is, array_objects) (rw (c.deref-in-Array-2.ensures.value, c.deref-in-Array.ensures) at c.all_objects-in-Array.ensures)
