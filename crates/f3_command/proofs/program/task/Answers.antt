use Rattle.std.proofs.Common.{◌∙◌, ap, codes, sym}
use Rattle.std.specs.Str.Parse.{ParsesUnsigned, ExplainsUnsignedError, HasUnsignedDigitsIfOk}
use Rattle.clap.specs.Matches.{found_of, one_text}
use Rattle.clap.specs.Walk.{rows_of}
use Rattle.clap.proofs.WalkLemmas.{one_text-rows}
use Rattle.f3_command.specs.Program.{number_of}
use Rattle.f3_command.proofs.Numbers.{number_read, run_so}
use Rattle.f3_command.proofs.program.task.Goals as goal

pub returns-clause-whole : goal.returns-clause-whole
returns-clause-whole c =
    let found = found_of c.args.inner.now in
    let steps = c.unwrap_or.ensures
    ∙ number_read (λ bs r. ParsesUnsigned 64 10 bs r × ExplainsUnsignedError 10 bs r × HasUnsignedDigitsIfOk bs r) (one_text found (codes "steps")) c.get_one.result (λ t r g. g.0)
    c.get_one.ensures.none c.get_one.ensures.value
    ∙ ap number_of (one_text-rows found (codes "steps")) in
    let heap = c.unwrap_or-2.ensures
    ∙ number_read (λ bs r. ParsesUnsigned 64 10 bs r × ExplainsUnsignedError 10 bs r × HasUnsignedDigitsIfOk bs r) (one_text found (codes "heap")) c.get_one-2.result (λ t r g. g.0)
    c.get_one-2.ensures.none c.get_one-2.ensures.value
    ∙ ap number_of (one_text-rows found (codes "heap")) in
    run_so c.args.name.now (rows_of found) _ _ (sym c.eq.ensures ∙ c.if-eq.false) (sym c.eq-2.ensures ∙ c.if-eq-2.false) (sym c.eq-3.ensures ∙ c.if-eq-3.false) steps heap
