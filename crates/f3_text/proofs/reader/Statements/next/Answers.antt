use Rattle.std.proofs.Common.{refl, sym, ◌∙◌}
use Rattle.std.proofs.lemmas.Result.{err_from_is_err_and}
use Rattle.f3_text.proofs.AlongSources.{stays, fails_left, fails_same, left_next, left_nothing, left_end}
use Rattle.f3_text.proofs.reader.Statements.next.Goals as goal

pub returns-in_err-statement-clause-given : goal.returns-in_err-statement-clause-given
returns-in_err-statement-clause-given c =
    let p = err_from_is_err_and c.from_residual.result c.from_residual.ensures.1 in
    rw (p.1, p.2) (stays _ _ _ _ (fails_left _ c.loop-statement.self c.in_err-statement.ensures) c.loop-statement.invariant refl)

pub returns-in-Some-clause-given : goal.returns-in-Some-clause-given
returns-in-Some-clause-given c =
    let h = rw c.in-Some.is at c.in_ok-statement.ensures in
    sym c.loop-statement.invariant ∙ left_next c.loop-statement.self _ _ h.same h.file refl refl

pub returns-in_err-reader-clause-given : goal.returns-in_err-reader-clause-given
returns-in_err-reader-clause-given c =
    let p = err_from_is_err_and c.from_residual-in_err-reader.result c.from_residual-in_err-reader.ensures.1 in
    let h = rw c.in_default.is at c.in_ok-statement.ensures in
    rw (p.1, p.2) (stays _ _ _ _ (fails_same _ _ _ c.in_err-reader.ensures (sym (left_nothing c.loop-statement.self h))) c.loop-statement.invariant refl)

pub loop-statement-preserved : goal.loop-statement-preserved
loop-statement-preserved c =
    let h = rw c.in_default.is at c.in_ok-statement.ensures in
    let e = rw c.in-Some-2.is at c.in_ok-reader.ensures in
    sym e.0 ∙ sym (left_nothing c.loop-statement.self h) ∙ c.loop-statement.invariant

pub returns-in-None-clause-given : goal.returns-in-None-clause-given
returns-in-None-clause-given c =
    let h = rw c.in_default.is at c.in_ok-statement.ensures in
    let e = rw c.in-None.is at c.in_ok-reader.ensures in
    let n = left_end c.loop-statement.self h e in
    (sym c.loop-statement.invariant ∙ n, n)
