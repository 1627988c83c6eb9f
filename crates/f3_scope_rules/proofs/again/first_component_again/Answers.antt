use Rattle.f3_scope_rules.specs.Inner.Rows.{ComponentAgain}
use Rattle.f3_scope_rules.proofs.Passing.{among_more}
use Rattle.f3_scope_rules.proofs.again.first_component_again.Goals as goal

pub loop-parts-preserved : goal.loop-parts-preserved
loop-parts-preserved c =
    among_more ComponentAgain c.args.types.now c.loop-parts.parts-index c.parts-item.result c.loop-parts.first c.in_ok-component_again.field-0 c.earlier-first.result c.loop-parts-test.true c.parts-item.is
    c.earlier-first.ensures c.loop-parts.invariant (rw c.deref.ensures.value at c.in_ok-component_again.ensures)
