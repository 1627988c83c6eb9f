use Rattle.f3_scopes.specs.Outlines.{scope_view}
use Rattle.f3_scope_rules.specs.ScopeBreaks.{BreaksOf}
use Rattle.f3_scope_rules.proofs.Passing.{among_more, among_all}
use Rattle.f3_scope_rules.proofs.Rules.{least_scopes}
use Rattle.f3_scope_rules.proofs.first_scope_break.Goals as goal

pub loop-outline-preserved : goal.loop-outline-preserved
loop-outline-preserved c =
    among_more (λ o. BreaksOf (scope_view o)) c.args.outlines.now c.loop-outline.outline-index c.outline-item.result c.loop-outline.first c.in_ok-first_of_scope.field-0 c.earlier-first.result c.loop-outline-test.true c.outline-item.is
    c.earlier-first.ensures c.loop-outline.invariant c.in_ok-first_of_scope.ensures

pub returns : goal.returns
returns c = least_scopes c.args.outlines.now c.loop-outline.first (among_all (λ o. BreaksOf (scope_view o)) c.args.outlines.now c.loop-outline.outline-index c.loop-outline.first c.loop-outline-test.false c.loop-outline.invariant)
