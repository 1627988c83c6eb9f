use Rattle.std.proofs.Common.{take}
use Rattle.f3_rules.specs.Least.{Least}
use Rattle.f3_scopes.specs.Outlines.{scope_view}
use Rattle.f3_scope_rules.specs.ScopeBreaks.{BreaksOf}
use Rattle.f3_breaks.specs.Among.{Among}
use Rattle.f3_scope_rules.proofs.first_scope_break.Given as goal

abbrev pub invariant-loop-outline : goal.invariant-loop-outline
invariant-loop-outline l = Least l.first (Among (λ o. BreaksOf (scope_view o)) (take l.outline-index l.outlines))
