use Rattle.f3_scopes.specs.Outlines.{scope_view}
use Rattle.f3_scope_rules.proofs.Rules.{least_scope}
use Rattle.f3_scope_rules.proofs.first_of_scope.Goals as goal

pub returns : goal.returns
returns c =
    least_scope (scope_view c.args.outline.now) c.in_ok-twice.twice c.first_access_outside.result c.in_ok-first_access_twice.field-0 c.in_ok-protected.protected c.in_ok-intent.intent c.in_ok-undeclared.undeclared
    c.earlier-access.result c.earlier.result c.earlier-attributes.result c.earlier-2.result c.earlier-3.result
    c.in_ok-twice.ensures c.first_access_outside.ensures c.in_ok-first_access_twice.ensures c.in_ok-protected.ensures c.in_ok-intent.ensures c.in_ok-undeclared.ensures
    c.earlier-access.ensures c.earlier.ensures c.earlier-attributes.ensures c.earlier-2.ensures c.earlier-3.ensures
