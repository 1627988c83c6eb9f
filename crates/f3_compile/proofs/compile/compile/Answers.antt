use Rattle.std.proofs.lemmas.Result.{err_from_is_err_and}
use Rattle.f3_compile.proofs.Parts.{refused_so}
use Rattle.f3_compile.proofs.compile.compile.Goals as goal

pub returns-in_err-checked : goal.returns-in_err-checked
returns-in_err-checked c =
    let w = err_from_is_err_and c.from_residual.result c.from_residual.ensures.1 in
    rw (w.1, w.2) (refused_so c.args.sources.now c.in_err-checked.field-0.0 c.in_err-checked.ensures)
