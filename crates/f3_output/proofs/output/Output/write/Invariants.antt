use Rattle.std.proofs.Common.{length}
use Rattle.f3_output.specs.Output.{state_of}
use Rattle.f3_output.proofs.Outputs.{Written}
use Rattle.f3_output.proofs.output.Output.write.Given as goal

-- a front has been written, and nothing refused
abbrev pub invariant-loop-rest : goal.invariant-loop-rest
invariant-loop-rest g l =
    Written (state_of g.W.Write.contents l.fn.self) (state_of g.W.Write.contents l.self) l.bytes l.rest

abbrev pub decreases-loop-rest : goal.decreases-loop-rest
decreases-loop-rest g l = length l.rest
