use Rattle.std.proofs.Common.{◌∙◌}
use Rattle.f3_acts.proofs.Dummies.{named_at}
use Rattle.f3_acts.proofs.moving.place_of.Goals as goal

pub returns : goal.returns
returns c = c.named_at.ensures ∙ named_at c.args.symbol c.args.dummies.now
