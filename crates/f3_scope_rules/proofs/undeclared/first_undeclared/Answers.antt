use Rattle.f3_scope_rules.proofs.Rules.{least_undeclared}
use Rattle.f3_scope_rules.proofs.undeclared.first_undeclared.Goals as goal

pub returns : goal.returns
returns c =
    least_undeclared c.args.outline.now c.args.declared.now c.in_ok-names.names.items c.in_ok-declared.declared.keys c.first_missing.result
    c.requires.names c.in_ok-names.ensures c.in_ok-declared.ensures (rw c.deref.ensures.value at c.first_missing.ensures)
