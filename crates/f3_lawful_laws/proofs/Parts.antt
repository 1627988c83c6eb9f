-- Expressions, actions and blocks in memory.
use Rattle.std.proofs.Common.{sym}
use mathlib.Core.Path.{subst}
use Rattle.f3_elaboration.specs.Nodes.{StatementNode}
use Rattle.f3_elaboration.specs.Expressions.{expression}
use Rattle.f3_kinds.specs.Typing.{said}
use Rattle.f3_lawful_laws.specs.Nodes.{NodeValue, NodeRuns}
use Rattle.f3_lawful_laws.specs.Laws.{ExpressionsHaveTypes, ExpressionsMayStand, ActionsMayRun, BlocksMayRun}
use Rattle.f3_lawful_laws.proofs.SeenExpressions.{value_seen}
use Rattle.f3_lawful_laws.proofs.SeenStatements.{statement_seen}
use Rattle.f3_lawful_laws.proofs.Given.{may_of, typed_of}
use Rattle.f3_lawful_laws.proofs.Expressions.{expression_is}
use Rattle.f3_lawful_laws.proofs.Actions.{action_runs}
use Rattle.f3_lawful_laws.proofs.Statements.{block_runs}

pub have_types : ExpressionsHaveTypes
have_types p scope s agrees e w b = typed_of p scope s (expression s e) (said s.context e).has (expression_is p scope s agrees e w b)

pub expressions_stand : ExpressionsMayStand
expressions_stand p scope s agrees e w b x seen =
    value_seen p scope x
    (subst (NodeValue p scope) (sym seen) (may_of p scope s (expression s e) (said s.context e).has (expression_is p scope s agrees e w b)))

pub actions_run : ActionsMayRun
actions_run p scope s agrees site held allows a w b free x seen =
    statement_seen p x scope
    (subst (λ (y : StatementNode). NodeRuns p y scope) (sym seen) (action_runs p scope s agrees site held allows a w b free))

pub blocks_run : BlocksMayRun
blocks_run p scope s agrees lends site held allows next b placed free x seen =
    statement_seen p x scope
    (subst (λ (y : StatementNode). NodeRuns p y scope) (sym seen)
    (block_runs p held b scope s site next (record { agrees = agrees; lends = lends; allows = allows }) placed free))
