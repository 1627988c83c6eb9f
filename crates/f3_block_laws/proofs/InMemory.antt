-- Actions and blocks in memory.
use Rattle.std.proofs.Common.{ap, ◌∙◌}
use Rattle.f3_block_laws.specs.Laws.{ActionsFit, BlocksFit}
use Rattle.f3_fitting_laws.proofs.Nodes.{statement_fits}
use Rattle.f3_block_laws.proofs.Actions.{action_fits}
use Rattle.f3_block_laws.proofs.SeenStatements.{statement_seen}
use Rattle.f3_block_laws.proofs.Statements.{block_fits}

pub actions : ActionsFit
actions p c s agrees words a w l d b x seen =
    statement_seen p x c ∙ ap (λ z. statement_fits p z c) seen ∙ action_fits p c s agrees words a w l d b

pub blocks : BlocksFit
blocks p c s agrees words lent site here held next b placed l d free x seen =
    statement_seen p x c ∙ ap (λ z. statement_fits p z c) seen
    ∙ block_fits p held b c s site next (record { agrees = agrees; words = words; lent = lent; here = here }) placed l d free
