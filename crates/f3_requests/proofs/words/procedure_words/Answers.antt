use Rattle.std.proofs.Common.{◌%◌, ◌^◌, map, ap, ◌∙◌}
use Rattle.f3_meaning_whole.specs.Shape.{shapes_of, shape_in, initial_of, initial_declared}
use Rattle.f3_meaning_whole.specs.Exec.{initial_value}
use Rattle.f3_meaning_whole.specs.Run.{setting_of}
use Rattle.f3_code.specs.Account.{level_words, words}
use Rattle.f3_requests.proofs.Wording.{one_more}
use Rattle.f3_requests.proofs.words.procedure_words.Goals as goal

pub returns-in-Some : goal.returns-in-Some
returns-in-Some c =
    let g = initial_value (setting_of c.args.program.now) in
    let d = c.in-Some.declared in
    rw c.in-Some.is (one_more g c.args.procedure.now.locals.items d c.variables_words-locals.result c.declared_words.result
    (c.variables_words-locals.ensures ∙ ap (λ ds. level_words (map g ds) % 2 ^ 64) c.deref.ensures.value)
    (c.declared_words.ensures ∙ ap (λ ts. words (initial_declared d (initial_of (shape_in (shapes_of ts) d.kind.of))) % 2 ^ 64) c.deref-in-Some.ensures.value))
