use Rattle.std.proofs.lemmas.Result.{err_from_is_err_and}
use Rattle.f3_tree.specs.Expressions.{expression_view}
use Rattle.f3_expressions.proofs.Runs.{refused}
use Rattle.f3_actions.proofs.Cases.{from_colon, colon_fails, value_fails, value_result}
use Rattle.f3_actions.proofs.constructs.case_value.Goals as goal

pub returns-in_err-upper-in-Some-clause-read : goal.returns-in_err-upper-in-Some-clause-read
returns-in_err-upper-in-Some-clause-read c =
    let p = err_from_is_err_and c.from_residual.result c.from_residual.ensures.1 in
    let b = c.in-Some.ensures in
    rw (p.1, p.2) (refused _ _ _ (colon_fails c.args.items.now c.in-Some.tail.now b.2) c.in_err-upper-in-Some.ensures.read)

pub returns-in_err-lower-in-None-clause-read : goal.returns-in_err-lower-in-None-clause-read
returns-in_err-lower-in-None-clause-read c =
    let p = err_from_is_err_and c.from_residual-in_err-lower-in-None.result c.from_residual-in_err-lower-in-None.ensures.1 in
    rw (p.1, p.2) (refused _ _ _ (value_fails c.args.items.now c.in-None.ensures) c.in_err-lower-in-None.ensures.read)

pub returns-in_ok-upper-in-Some-clause-read : goal.returns-in_ok-upper-in-Some-clause-read
returns-in_ok-upper-in-Some-clause-read c =
    let b = c.in-Some.ensures in
    from_colon c.args.items.now c.in-Some.tail.now b.0 c.in-Some.place (expression_view c.in_ok-upper-in-Some.upper) c.in_ok-upper-in-Some.rest.now b.1 b.2 b.3 c.in_ok-upper-in-Some.ensures.read

pub returns-in_ok-lower-in-None-clause-read : goal.returns-in_ok-lower-in-None-clause-read
returns-in_ok-lower-in-None-clause-read c =
    value_result c.args.items.now c.in_ok-lower-in-None.rest.now (expression_view c.in_ok-lower-in-None.lower) c.in-None.ensures c.in_ok-lower-in-None.ensures.read c.case_behind.result c.case_behind.ensures.read
