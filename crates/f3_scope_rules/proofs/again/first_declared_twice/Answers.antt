use Rattle.f3_scope_rules.proofs.Rules.{least_twice}
use Rattle.f3_scope_rules.proofs.again.first_declared_twice.Goals as goal

pub returns : goal.returns
returns c =
    least_twice c.args.outline.now c.args.declared.now c.in_ok-header.header.items c.has_other_result-has_other_result.result c.in_ok-in_declarations.in_declarations c.in_ok-in_header.in_header c.first_own_name-own.result c.in_ok-component.component c.earlier.result c.earlier-2.result c.earlier-3.result
    c.requires.names c.in_ok-header.ensures c.has_other_result-has_other_result.ensures
    c.in_ok-in_declarations.ensures (rw c.deref.ensures.value at c.in_ok-in_header.ensures) c.first_own_name-own.ensures (rw c.deref-2.ensures.value at c.in_ok-component.ensures)
    c.earlier.ensures c.earlier-2.ensures c.earlier-3.ensures
