-- Expressions in memory.
use Rattle.std.proofs.Common.{ap, ◌∙◌}
use Rattle.f3_fitting_laws.specs.Laws.{ExpressionsFit}
use Rattle.f3_fitting_laws.proofs.Nodes.{value_fits}
use Rattle.f3_fitting_laws.proofs.Seen.{value_seen}
use Rattle.f3_fitting_laws.proofs.Expressions.{expression_fits}

pub expressions : ExpressionsFit
expressions p c s agrees words e w l d b x seen =
    value_seen p c x ∙ ap (value_fits p c) seen ∙ expression_fits p c s agrees words e w l d b
