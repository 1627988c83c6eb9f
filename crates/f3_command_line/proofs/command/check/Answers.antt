use Rattle.std.proofs.Common.{ap, refl, ◌∙◌}
use Rattle.std.proofs.lemmas.Result.{IfOk-weaker}
use Rattle.clap.specs.Simple.{app_of_fields}
use Rattle.f3_command_line.proofs.CommandLine.{with_one}
use Rattle.f3_command_line.proofs.command.check.Goals as goal

pub returns : goal.returns
returns c = IfOk-weaker c.arg.result _ _ (λ r h. with_one c.about.result c.files.result r _ _ h (ap app_of_fields c.about.ensures ∙ c.new.ensures.app) c.files.ensures refl) c.arg.ensures
