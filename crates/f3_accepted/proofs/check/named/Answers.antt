use Rattle.std.proofs.lemmas.Result.{err_from_is_err_and}
use Rattle.f3_tree.specs.Tree.{view}
use Rattle.f3_accepted.proofs.Joined.{units_refused, names_refused, defined_refused, nothing_broken}
use Rattle.f3_accepted.proofs.check.named.Goals as goal

pub returns-in_err-order : goal.returns-in_err-order
returns-in_err-order c =
    let w = err_from_is_err_and c.from_residual.result c.from_residual.ensures.1 in
    rw (w.1, w.2) (units_refused (view c.args.program.now) c.in_err-order.field-0.0 c.in_err-order.ensures)

pub returns-in_err-names : goal.returns-in_err-names
returns-in_err-names c =
    let w = err_from_is_err_and c.from_residual-in_err-names.result c.from_residual-in_err-names.ensures.1 in
    rw (w.1, w.2) (names_refused (view c.args.program.now) c.in_ok-order.ensures.1 c.in_err-names.field-0.0 c.in_err-names.ensures)

pub returns-in-Ok : goal.returns-in-Ok
returns-in-Ok c = (
  c.in_ok-order.ensures.0,
  c.in_ok-names.ensures.0,
  c.in-Ok.ensures.answer.0,
  nothing_broken (view c.args.program.now) c.in_ok-order.ensures.1 c.in_ok-names.ensures.1 c.in-Ok.ensures.answer.1,
  c.in-Ok.ensures.along,
)

pub returns-in-Err : goal.returns-in-Err
returns-in-Err c = defined_refused (view c.args.program.now) c.in_ok-order.ensures.1 c.in_ok-names.ensures.1 c.in-Err.fault c.in-Err.ensures.answer
