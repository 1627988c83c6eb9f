use Rattle.std.proofs.lemmas.Result.{err_from_is_err_and}
use Rattle.f3_tree.specs.Expressions.{expression_view}
use Rattle.f3_expressions.proofs.Runs.{refused}
use Rattle.f3_shapes.proofs.Turns.{no_lower, lower_before, lower_fails, no_colon_behind}
use Rattle.f3_shapes.proofs.shapes.lower.Goals as goal

pub returns-in-Some-clause-read : goal.returns-in-Some-clause-read
returns-in-Some-clause-read c = no_lower c.args.items.now c.in-Some.tail.now c.in-Some.ensures.0

pub returns-in_err-first-clause-read : goal.returns-in_err-first-clause-read
returns-in_err-first-clause-read c =
    let p = err_from_is_err_and c.from_residual.result c.from_residual.ensures.1 in
    rw (p.1, p.2) (refused _ _ _ (lower_fails c.args.items.now c.in_default.ensures) c.in_err-first.ensures.read)

pub returns-in_err-rest-clause-read : goal.returns-in_err-rest-clause-read
returns-in_err-rest-clause-read c =
    let p = err_from_is_err_and c.from_residual-in_err-rest.result c.from_residual-in_err-rest.ensures.1 in
    rw (p.1, p.2) (refused _ _ _ (no_colon_behind c.args.items.now c.in_ok-first.rest.now (expression_view c.in_ok-first.first) c.in_default.ensures c.in_ok-first.ensures.read) c.in_err-rest.ensures.read)

pub returns-clause-read : goal.returns-clause-read
returns-clause-read c = lower_before c.args.items.now c.in_ok-first.rest.now (expression_view c.in_ok-first.first) c.in_ok-rest.rest.now c.in_default.ensures c.in_ok-first.ensures.read c.in_ok-rest.ensures.read.0
