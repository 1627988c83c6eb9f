use Rattle.std.proofs.Common.{◌≡◌, ◌++◌, ◌-◌, ◌^◌, map, drop}
use Rattle.f3_tree.specs.Tree.{unit_view}
use Rattle.f3_elaboration.specs.DeclaredViews.{static_view}
use Rattle.f3_declaration_nodes.specs.Variables.{static_by}
use Rattle.f3_variable_nodes.specs.Inner.Walk.{AllFit, statics_from}
use Rattle.f3_variable_nodes.proofs.statics.add_units.Given as goal

abbrev pub invariant-loop-unit : goal.invariant-loop-unit
invariant-loop-unit l = record {
  fit : AllFit l.fn.firsts (2 ^ 64 - 1) l.scope (map unit_view (drop l.unit-index l.fn.list));
  found : map static_view l.found.items ++ map (static_by l.fn.whole) (statics_from l.fn.firsts l.scope (map unit_view (drop l.unit-index l.fn.list)))
      ≡ map static_view l.fn.found.items ++ map (static_by l.fn.whole) (statics_from l.fn.firsts 0 (map unit_view l.fn.list));
}
