use Rattle.std.proofs.lemmas.Result.{err_from_is_err_and}
use Rattle.f3_declarations.proofs.Prefixes.{refused}
use Rattle.f3_declarations.proofs.Turns.{only_name, only_rename, only_fails}
use Rattle.f3_declarations.proofs.uses.only.Goals as goal

pub returns-in_err-original-in-Some-clause-read : goal.returns-in_err-original-in-Some-clause-read
returns-in_err-original-in-Some-clause-read c =
    let p = err_from_is_err_and c.from_residual-in_err-original-in-Some.result c.from_residual-in_err-original-in-Some.ensures.1 in
    rw (p.1, p.2) (refused _ _ _ (only_fails c.args.items.now c.in_ok-local.rest.now c.in-Some.tail.now c.in_ok-local.local c.in_ok-local.ensures.read c.in-Some.ensures.0) c.in_err-original-in-Some.ensures.read)

pub returns-in-None-clause-read : goal.returns-in-None-clause-read
returns-in-None-clause-read c = only_name c.args.items.now c.in_ok-local.rest.now c.in_ok-local.local c.in_ok-local.ensures.read c.in-None.ensures

pub returns-in_ok-original-in-Some-clause-read : goal.returns-in_ok-original-in-Some-clause-read
returns-in_ok-original-in-Some-clause-read c =
    only_rename c.args.items.now c.in_ok-local.rest.now c.in-Some.tail.now c.in_ok-local.local c.in_ok-original-in-Some.original c.in_ok-original-in-Some.rest.now c.in_ok-local.ensures.read c.in-Some.ensures.0 c.in_ok-original-in-Some.ensures.read
