use Rattle.std.proofs.lemmas.Result.{err_from_is_err_and}
use Rattle.f3_tree.specs.Expressions.{expression_view}
use Rattle.f3_expressions.proofs.Runs.{refused}
use Rattle.f3_shapes.proofs.Turns.{upper_alone, both_bounds, bounds_fail}
use Rattle.f3_shapes.proofs.shapes.bounds.Goals as goal

pub returns-in_err-upper-in-Some-clause-read : goal.returns-in_err-upper-in-Some-clause-read
returns-in_err-upper-in-Some-clause-read c =
    let p = err_from_is_err_and c.from_residual-in_err-upper-in-Some.result c.from_residual-in_err-upper-in-Some.ensures.1 in
    rw (p.1, p.2) (refused _ _ _ (bounds_fail c.args.items.now c.in_ok-first.rest.now c.in-Some.tail.now (expression_view c.in_ok-first.first) c.in_ok-first.ensures.read c.in-Some.ensures.0) c.in_err-upper-in-Some.ensures.read)

pub returns-in-None-clause-read : goal.returns-in-None-clause-read
returns-in-None-clause-read c = upper_alone c.args.items.now c.in_ok-first.rest.now (expression_view c.in_ok-first.first) c.in_ok-first.ensures.read c.in-None.ensures

pub returns-in_ok-upper-in-Some-clause-read : goal.returns-in_ok-upper-in-Some-clause-read
returns-in_ok-upper-in-Some-clause-read c =
    both_bounds c.args.items.now c.in_ok-first.rest.now c.in-Some.tail.now (expression_view c.in_ok-first.first) (expression_view c.in_ok-upper-in-Some.upper) c.in_ok-upper-in-Some.rest.now c.in_ok-first.ensures.read c.in-Some.ensures.0 c.in_ok-upper-in-Some.ensures.read
