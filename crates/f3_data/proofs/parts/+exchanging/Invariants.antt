use Rattle.std.proofs.Common.{length, ◌+◌, ◌*◌}
use Rattle.f3_data.proofs.parts.+exchanging.Given as goal

abbrev pub decreases-exchange : goal.decreases-exchange
decreases-exchange l = length l.steps.now * 2

abbrev pub decreases-exchange_at : goal.decreases-exchange_at
decreases-exchange_at l = length l.rest.now * 2 + 1
