use Rattle.std.proofs.Common.{◌%◌, ◌^◌, ap, ◌∙◌, arith}
use Rattle.f3_meaning_whole.specs.Shape.{shapes_of, shape_in, initial_of, initial_declared}
use Rattle.f3_meaning_whole.specs.Exec.{initial_value}
use Rattle.f3_meaning_whole.specs.Run.{setting_of}
use Rattle.f3_code.specs.Account.{words}
use Rattle.f3_requests.proofs.Wording.{next}
use Rattle.f3_requests.proofs.words.variables_words.Goals as goal

pub loop-variable-preserved : goal.loop-variable-preserved
loop-variable-preserved c =
    let d = c.variable-item.result in
    next (initial_value (setting_of c.args.program.now)) c.args.declared.now c.loop-variable.variable-index d c.loop-variable.total c.declared_words-total.result
    (omega arith) c.variable-item.is c.loop-variable.invariant (c.declared_words-total.ensures
    ∙ ap (λ ts. words (initial_declared d (initial_of (shape_in (shapes_of ts) d.kind.of))) % 2 ^ 64) c.deref.ensures.value)
