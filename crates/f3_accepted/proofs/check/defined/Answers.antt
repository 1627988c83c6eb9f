use Rattle.std.proofs.lemmas.Result.{err_from_is_err_and}
use Rattle.f3_tree.specs.Tree.{view}
use Rattle.f3_accepted.proofs.Phases.{nothing_of_5_to_7}
use Rattle.f3_accepted.proofs.Joined.{types_refused, definitions_refused}
use Rattle.f3_accepted.proofs.check.defined.Goals as goal

pub returns-in_err-types-clause-answer : goal.returns-in_err-types-clause-answer
returns-in_err-types-clause-answer c =
    let w = err_from_is_err_and c.from_residual.result c.from_residual.ensures.1 in
    rw (w.1, w.2) (types_refused (view c.args.program.now) c.in_err-types.field-0.0 c.in_err-types.ensures.answer)

pub returns-in-Ok-clause-answer : goal.returns-in-Ok-clause-answer
returns-in-Ok-clause-answer c = (
  c.in_ok-types.ensures.answer.0,
  nothing_of_5_to_7 (view c.args.program.now) c.in_ok-types.ensures.answer.1 c.in-Ok.ensures,
)

pub returns-in-Err-clause-answer : goal.returns-in-Err-clause-answer
returns-in-Err-clause-answer c = definitions_refused (view c.args.program.now) c.in_ok-types.ensures.answer.1 c.in-Err.fault c.in-Err.ensures
