use Rattle.std.proofs.Common.{arith}
use Rattle.f3_requests.proofs.Sums.{held_next}
use Rattle.f3_requests.proofs.given.given_words.Goals as goal

pub loop-cell-preserved : goal.loop-cell-preserved
loop-cell-preserved c = held_next c.args.cells.now c.loop-cell.cell-index c.cell-item.result c.loop-cell.total c.value_words-total.result _
    (omega arith) c.cell-item.is c.loop-cell.invariant c.value_words-total.ensures
