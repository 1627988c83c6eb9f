use Rattle.std.proofs.Common.{length}
use Rattle.f3_value_steps.proofs.queries.+asked.Given as goal

abbrev pub decreases-asked : goal.decreases-asked
decreases-asked l = length l.spans.now
