use Rattle.std.proofs.Common.{◌-◌, ◌^◌, ◌+◌, ℕ, List, map, drop, sym, subst}
use Rattle.std.proofs.lemmas.List.{map-append}
use Rattle.f3_tree.specs.declared.program.Unit.{Unit as ProgramUnit}
use Rattle.f3_tree.specs.Tree.{unit_view}
use Rattle.f3_natures.specs.Walk.{unit_end}
use Rattle.f3_declaration_nodes.specs.Variables.{static_by}
use Rattle.f3_variable_nodes.specs.Inner.Walk.{AllFit, statics_from, unit_statics_by}
use Rattle.f3_variable_nodes.proofs.Fitting.{unit_here}
use Rattle.f3_variable_nodes.proofs.Walking.{walked}
use Rattle.f3_variable_nodes.proofs.statics.add_units.Goals as goal

pub add_unit-requires : goal.add_unit-requires
add_unit-requires c =
    (unit_here c.args.firsts.now _ c.loop-unit.scope c.args.list.now c.loop-unit.unit-index c.unit-item.result c.loop-unit-test.true c.unit-item.is c.loop-unit.invariant.fit).0

pub loop-unit-preserved : goal.loop-unit-preserved
loop-unit-preserved c = record {
  fit = subst (λ (n : ℕ). AllFit c.args.firsts.now (2 ^ 64 - 1) n (map unit_view (drop (c.loop-unit.unit-index + 1) c.args.list.now))) (sym c.in_ok-scope.ensures.next)
      (unit_here c.args.firsts.now _ c.loop-unit.scope c.args.list.now c.loop-unit.unit-index c.unit-item.result c.loop-unit-test.true c.unit-item.is c.loop-unit.invariant.fit).1;
  found = walked (λ (n : ℕ) (u : ProgramUnit). map (static_by c.args.whole) (unit_statics_by c.args.firsts.now n (unit_view u)))
      (λ (n : ℕ) (us : List ProgramUnit). map (static_by c.args.whole) (statics_from c.args.firsts.now n (map unit_view us)))
      (λ (n : ℕ) (u : ProgramUnit). unit_end n (unit_view u))
      (λ n u us. map-append (static_by c.args.whole) (unit_statics_by c.args.firsts.now n (unit_view u)) (statics_from c.args.firsts.now (unit_end n (unit_view u)) (map unit_view us)))
      c.args.list.now c.loop-unit.unit-index c.unit-item.result c.loop-unit.scope c.in_ok-scope.scope _ _ _ c.loop-unit-test.true c.unit-item.is
      c.in_ok-scope.ensures.next c.in_ok-scope.ensures.found c.loop-unit.invariant.found;
}
