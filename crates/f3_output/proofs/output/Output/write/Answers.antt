use Rattle.std.proofs.Common.{refl}
use Rattle.f3_output.proofs.Outputs.{more_written}
use Rattle.f3_output.proofs.output.Output.write.Goals as goal

pub loop-rest-preserved : goal.loop-rest-preserved
loop-rest-preserved g c = more_written c.in-Ok.n c.loop-rest.invariant (record { appended = c.in-Ok.ensures.bytes; same = refl })
