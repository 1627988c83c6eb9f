use Rattle.std.proofs.Common.{ap, not}
use Rattle.f3_scope_rules.proofs.Rules.{least_protected}
use Rattle.f3_scope_rules.proofs.protected.first_protected_misplaced.Goals as goal

pub returns : goal.returns
returns c =
    least_protected c.args.outline.now c.in_ok-variables.variables.items c.in_ok-names.names.items c.in_ok-variables-2.variables.keys (not c.is_module-is_outside.result) c.first_misprotected.result
    (rw c.deref.ensures.value at c.in_ok-variables.ensures) (rw c.deref-2.ensures.value at c.in_ok-variables-2.ensures) c.in_ok-names.ensures (ap not c.is_module-is_outside.ensures)
    (rw c.deref-3.ensures.value at c.first_misprotected.ensures)
