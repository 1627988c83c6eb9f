use Rattle.std.proofs.Common.{◌∙◌, ap, sym}
use Rattle.std.specs.Prelude.{slice_get}
use Rattle.f3_meaning_whole.specs.Run.{setting_of}
use Rattle.f3_call_steps.proofs.Calling.{entry_there, no_procedure, no_line}
use Rattle.f3_call_steps.proofs.calls.entry.Goals as goal

pub returns-in_default : goal.returns-in_default
returns-in_default c = no_procedure (setting_of c.args.scene.now.program.now) c.args.scene.now.program.now.procedures.items
    c.args.scene.now.emission.now.procedures.items
    c.args.number (ap (λ l. slice_get l c.args.number) (sym c.deref.ensures.value) ∙ c.in_default.ensures)

pub returns-in_default-line_at : goal.returns-in_default-line_at
returns-in_default-line_at c = no_line (setting_of c.args.scene.now.program.now) c.args.scene.now.program.now.procedures.items
    c.args.scene.now.emission.now.procedures.items
    c.args.number (ap (λ l. slice_get l c.args.number) (sym c.deref-2.ensures.value) ∙ sym c.in_default-line_at.ensures)

pub returns : goal.returns
returns c =
    let procedure = ap (λ l. slice_get l c.args.number) (sym c.deref.ensures.value) ∙ c.in-Some.ensures in
    let line = ap (λ l. slice_get l c.args.number) (sym c.deref-2.ensures.value) ∙ sym c.in-Some-line_at.ensures in (
      procedure,
      entry_there (setting_of c.args.scene.now.program.now) c.args.scene.now.program.now.procedures.items c.args.scene.now.emission.now.procedures.items
          c.args.number c.in-Some.procedure.now c.in-Some-line_at.line procedure line,
    )
