use Rattle.std.proofs.Common.{ap, not}
use Rattle.f3_scope_rules.proofs.Rules.{least_outside}
use Rattle.f3_scope_rules.proofs.access.first_access_outside.Goals as goal

pub returns : goal.returns
returns c =
    least_outside c.args.outline.now (not c.is_module-is_outside.result) c.first_statement_outside.result c.first_attribute_outside.result c.earlier.result (ap not c.is_module-is_outside.ensures)
    (rw c.deref.ensures.value at c.first_statement_outside.ensures) (rw c.deref-2.ensures.value at c.first_attribute_outside.ensures) c.earlier.ensures
