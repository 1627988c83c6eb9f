use Rattle.std.proofs.lemmas.Result.{err_from_is_err_and}
use Rattle.f3_expressions.proofs.Runs.{refused}
use Rattle.f3_forms.proofs.Types.{with_access, no_access, no_name}
use Rattle.f3_forms.proofs.statements.type_form.Goals as goal

pub returns-in_err-access : goal.returns-in_err-access
returns-in_err-access c =
    let p = err_from_is_err_and c.from_residual.result c.from_residual.ensures.1 in
    rw (p.1, p.2) (refused _ _ _ (no_access c.args.items.now c.in-Some.field-0.now c.in-Some.ensures.0) c.in_err-access.ensures)

pub returns-in_err-name : goal.returns-in_err-name
returns-in_err-name c =
    let p = err_from_is_err_and c.from_residual-in_err-name.result c.from_residual-in_err-name.ensures.1 in
    rw (p.1, p.2) (refused _ _ _ (no_name c.args.items.now c.in-Some.field-0.now c.in_ok-access.rest.now c.in_ok-access.access c.in-Some.ensures.0 c.in_ok-access.ensures) c.in_err-name.ensures)

pub returns-in-Some : goal.returns-in-Some
returns-in-Some c =
    with_access c.args.items.now c.in-Some.field-0.now c.in_ok-access.rest.now c.in_ok-access.access c.in_ok-name.name c.in-Some.ensures.0 c.in_ok-access.ensures c.in_ok-name.ensures.0 c.in_ok-name.ensures.1
