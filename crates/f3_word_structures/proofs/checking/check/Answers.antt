use Rattle.std.proofs.Common.{arith}
use Rattle.f3_word_structures.proofs.Checks.{all-told, one-more, told, told-not, untold, value-found}
use Rattle.f3_word_structures.proofs.checking.check.Goals as goal
use Rattle.f3_word_structures.proofs.checking.check.Goals.{in-Some+in-Ok, in_default}

pub loop-number-init : goal.loop-number-init
loop-number-init g c = λ p ps are k x lt e. absurd (omega (arith, lt))

pub test-requires-clause-can : goal.test-requires-clause-can
test-requires-clause-can g c =
    let given = c.requires.given in
    let at = value-found given.0 c.args.types (g.B.Blocks.blocks c.args.heap.now) c.loop-number.number c.args.cells.now given.1 given.2 c.in-Some.datum.now c.in-Some.ensures in
    (given.0, at.kind, at.value, at.can)

pub returns-in-Err : goal.returns-in-Err
returns-in-Err g c = λ p ps are.
    let at = value-found p c.args.types (g.B.Blocks.blocks c.args.heap.now) c.loop-number.number c.args.cells.now ps are c.in-Some.datum.now c.in-Some.ensures in (
      c.loop-number.number,
      told-not c.args.components.now ps c.loop-number.number at.value at.passed c.index-components-number.result c.in-Err.error (c.in-Err.ensures p at.kind at.value at.can) c.loop-number-test.true
          (c.loop-number.invariant p ps are),
    )

pub loop-number-preserved : goal.loop-number-preserved
loop-number-preserved g c = λ p ps are.
    let m = g.B.Blocks.blocks c.args.heap.now in
    let k = c.loop-number.number in
    elim c.match-given.branch [
      | in-Some+in-Ok w ↦
          let at = value-found p c.args.types m k c.args.cells.now ps are w.in-Some.datum.now w.in-Some.ensures in
          one-more c.args.components.now ps k (c.loop-number.invariant p ps are)
          (told c.args.components.now ps k at.value at.passed w.index-components-number.result (w.in-Ok.ensures p at.kind at.value at.can))
      | in_default w ↦
          one-more c.args.components.now ps k (c.loop-number.invariant p ps are) (λ x e. untold p c.args.types m k c.args.cells.now ps are w.in_default.ensures x)
    ]

pub returns : goal.returns
returns g c = λ p ps are.
    let e = c.loop-number-test.false in
    all-told c.args.components.now ps c.loop-number.number (c.loop-number.invariant p ps are) (omega (arith, e))
