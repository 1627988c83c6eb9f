use Rattle.std.proofs.Common.{length, ◌+◌, ◌*◌}
use Rattle.f3_data.proofs.parts.+setting.Given as goal

abbrev pub decreases-set_part : goal.decreases-set_part
decreases-set_part l = length l.steps.now * 2

abbrev pub decreases-set_at : goal.decreases-set_at
decreases-set_at l = length l.rest.now * 2 + 1
