use Rattle.std.proofs.Common.{◌≤◌, ◌<◌, length, ap, sym, ◌∙◌, arith, refl}
use Rattle.std.specs.Prelude.{slice_get}
use Rattle.f3_meaning_whole.specs.Run.{setting_of}
use Rattle.f3_requests.specs.Inner.Counted.{counted, held_words}
use Rattle.f3_requests.proofs.Wanting.{entry_some, no_procedure, no_line}
use Rattle.f3_requests.proofs.asking.procedure_wants.Goals as goal

pub returns-in_default : goal.returns-in_default
returns-in_default c = ap counted (sym (no_procedure (setting_of c.args.scene.now.program.now) c.args.scene.now.program.now.procedures.items
    c.args.scene.now.emission.now.procedures.items c.args.number (held_words c.args.arguments.now)
    (ap (λ l. slice_get l c.args.number) (sym c.deref.ensures.value) ∙ c.in_default.ensures)))

pub returns-then-number-len : goal.returns-then-number-len
returns-then-number-len c =
    let far : length c.args.scene.now.emission.now.procedures.items ≤ c.args.number =
    omega (arith, c.if-number-len.true, c.len.ensures, c.args.scene.now.emission.now.procedures.ok.0) in
    ap counted (sym (no_line (setting_of c.args.scene.now.program.now) c.args.scene.now.program.now.procedures.items
    c.args.scene.now.emission.now.procedures.items c.args.number (held_words c.args.arguments.now) far))

pub returns : goal.returns
returns c =
    let near : c.args.number < length c.args.scene.now.emission.now.procedures.items =
    omega (arith, c.if-number-len.false, c.len.ensures, c.args.scene.now.emission.now.procedures.ok.0) in
    entry_some (setting_of c.args.scene.now.program.now) c.args.scene.now.program.now.procedures.items c.args.scene.now.emission.now.procedures.items
    c.args.number (held_words c.args.arguments.now) c.in-Some.procedure.now c.procedure_words.result c.block-variables.result c.given_words.result c.block.result
    _ (ap (λ l. slice_get l c.args.number) (sym c.deref.ensures.value) ∙ c.in-Some.ensures) near
    c.procedure_words.ensures c.block-variables.ensures c.given_words.ensures c.block.ensures refl
