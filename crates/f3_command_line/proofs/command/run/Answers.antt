use Rattle.std.proofs.Common.{ap, refl, ◌∙◌}
use Rattle.std.proofs.lemmas.Result.{IfOk-weaker}
use Rattle.clap.specs.Simple.{app_of_fields}
use Rattle.f3_command_line.proofs.CommandLine.{with_one}
use Rattle.f3_command_line.proofs.command.run.Goals as goal

pub returns : goal.returns
returns c =
    let bare = ap app_of_fields c.about.ensures ∙ c.new.ensures.app in
    let with_steps = with_one c.about.result c.steps.result c.in_ok-arg.field-0 _ _ c.in_ok-arg.ensures bare c.steps.ensures refl in
    let with_heap = with_one c.in_ok-arg.field-0 c.heap.result c.in_ok-arg-2.field-0 _ _ c.in_ok-arg-2.ensures with_steps c.heap.ensures refl in
    IfOk-weaker c.arg-3.result _ _ (λ r h. with_one c.in_ok-arg-2.field-0 c.files.result r _ _ h with_heap c.files.ensures refl) c.arg-3.ensures
