use Rattle.std.proofs.Common.{refl, arith}
use Rattle.f3_word_structures.proofs.Looking.{looking-done, looking-found, looking-more}
use Rattle.f3_word_structures.proofs.finding.given.Goals as goal

pub loop-cell-init : goal.loop-cell-init
loop-cell-init c = refl

pub returns-in-Some : goal.returns-in-Some
returns-in-Some c =
    looking-found c.args.number c.args.cells.now c.loop-cell.cell-index c.loop-cell.invariant c.cell-item.result c.cell-item.is c.loop-cell-test.true c.in-Some.datum.now c.in-Some.ensures

pub loop-cell-preserved : goal.loop-cell-preserved
loop-cell-preserved c =
    looking-more c.args.number c.args.cells.now c.loop-cell.cell-index c.loop-cell.invariant c.cell-item.result c.cell-item.is c.loop-cell-test.true c.in_default.ensures

pub returns : goal.returns
returns c = let e = c.loop-cell-test.false in looking-done c.args.number c.args.cells.now c.loop-cell.cell-index c.loop-cell.invariant (omega (arith, e))
