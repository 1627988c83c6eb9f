use Rattle.std.proofs.Common.{rules, refl, map}
use Rattle.f3_tree.specs.declared.program.Unit.{Unit as TheUnit}
use Rattle.f3_tree.specs.Tree.{unit_view}
use Rattle.f3_scopes.specs.Scopes.{unit_scopes, scopes_from}
use Rattle.f3_scopes.proofs.Growing.{step}
use Rattle.f3_scopes.proofs.scopes.outlines.Goals as goal

pub loop-unit-preserved : goal.loop-unit-preserved
loop-unit-preserved c =
    step (λ n (x : TheUnit). unit_scopes n (unit_view x)) (λ n xs. scopes_from n (map unit_view xs)) (λ n x xs. refl)
    c.deref-unit-items.result.now c.loop-unit.unit-index c.unit-item.result c.loop-unit.found.items c.add_unit.new.found.items _ c.loop-unit-test.true
    (search rules) c.loop-unit.invariant
