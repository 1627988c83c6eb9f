use Rattle.std.proofs.Common.{sym, ◌∙◌}
use Rattle.std.proofs.lemmas.Result.{err_from_is_err_and}
use Rattle.f3_tree.specs.Expressions.{expression_view}
use Rattle.f3_expressions.proofs.Runs.{refused}
use Rattle.f3_actions.proofs.Cases.{no_upper, upper_behind, upper_fails}
use Rattle.f3_actions.proofs.constructs.case_behind.Goals as goal

pub returns-then-ends_value-clause-read : goal.returns-then-ends_value-clause-read
returns-then-ends_value-clause-read c = no_upper (expression_view c.args.lower) c.args.items.now c.in-Some.tail.now c.in-Some.ensures.0 (sym c.ends_value.ensures ∙ c.if-ends_value.true)

pub returns-in_err-upper-in-Some-clause-read : goal.returns-in_err-upper-in-Some-clause-read
returns-in_err-upper-in-Some-clause-read c =
    let p = err_from_is_err_and c.from_residual.result c.from_residual.ensures.1 in
    rw (p.1, p.2) (refused _ _ _ (upper_fails (expression_view c.args.lower) c.args.items.now c.in-Some.tail.now c.in-Some.ensures.0 (sym c.ends_value.ensures ∙ c.if-ends_value.false)) c.in_err-upper-in-Some.ensures.read)

pub returns-in_ok-upper-in-Some-clause-read : goal.returns-in_ok-upper-in-Some-clause-read
returns-in_ok-upper-in-Some-clause-read c =
    upper_behind (expression_view c.args.lower) c.args.items.now c.in-Some.tail.now (expression_view c.in_ok-upper-in-Some.upper) c.in_ok-upper-in-Some.rest.now c.in-Some.ensures.0 (sym c.ends_value.ensures ∙ c.if-ends_value.false) c.in_ok-upper-in-Some.ensures.read
