use Rattle.std.proofs.Common.{ap, refl, true, ◌∙◌}
use Rattle.std.proofs.lemmas.Result.{IfOk-weaker}
use Rattle.clap.specs.Simple.{Shape, app_of_fields, on_top}
use Rattle.clap.specs.declared.builder.command.Command.{Command}
use Rattle.clap.specs.declared.builder.command.Command.TheOpen.{Command-F}
use Rattle.f3_command_line.specs.Command.{check_app, run_app, names_app, code_app}
use Rattle.f3_command_line.proofs.CommandLine.{joined}
use Rattle.f3_command_line.proofs.command.command.Goals as goal

pub returns : goal.returns
returns c =
    let bare = ap app_of_fields c.subcommand_required-f3.ensures
    ∙ ap (λ (f : Command-F Command). app_of_fields (record f { subcommand_required = true })) c.about.ensures
    ∙ ap (λ (f : Command-F Command). app_of_fields (record f { subcommand_required = true })) c.version.ensures
    ∙ ap (on_top (λ (s : Shape). record s { has_version = true; subcommand_required = true })) c.new.ensures.app in
    let one = joined _ check_app c.check.result c.subcommand_required-f3.result c.in_ok-f3.f3 c.in_ok-f3.ensures bare c.check.ensures refl in
    let two = joined _ run_app c.run.result c.in_ok-f3.f3 c.in_ok-f3-2.f3 c.in_ok-f3-2.ensures one c.run.ensures refl in
    let three = joined _ names_app c.names.result c.in_ok-f3-2.f3 c.in_ok-f3-3.f3 c.in_ok-f3-3.ensures two c.names.ensures refl in
    IfOk-weaker c.with_subcommand-4.result _ _ (λ r h. joined _ code_app c.code.result c.in_ok-f3-3.f3 r h three c.code.ensures refl) c.with_subcommand-4.ensures
