use Rattle.std.proofs.lemmas.Result.{IfOk-weaker}
use Rattle.f3_command_line.proofs.CommandLine.{joins_so}
use Rattle.f3_command_line.proofs.command.with_subcommand.Goals as goal

pub returns-in-Ok : goal.returns-in-Ok
returns-in-Ok c = rw c.in-Ok.is (IfOk-weaker c.subcommand.result _ _ (λ r h. joins_so c.args.command c.in-Ok.subcommand r h) c.subcommand.ensures)
