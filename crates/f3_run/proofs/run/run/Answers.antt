use Rattle.f3_output.specs.Output.{state_of}
use Rattle.f3_compile.specs.Compiled.{program_of}
use Rattle.f3_run.proofs.Beginning.{none_yet}
use Rattle.f3_run.proofs.run.run.Goals as goal

pub returns-in_default : goal.returns-in_default
returns-in_default g c = none_yet (program_of c.args.compiled.now) c.args.limits (state_of g.W.Write.contents c.args.output.now)
