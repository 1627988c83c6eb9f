use Rattle.std.proofs.Common.{◌≡◌, ◌++◌, ◌-◌, ◌^◌, map, drop}
use Rattle.f3_tree.specs.Tree.{procedure_view}
use Rattle.f3_natures.specs.Walk.{along, end_of}
use Rattle.f3_unit_rules.specs.Members.{Fit}
use Rattle.f3_elaboration.specs.DeclaredViews.{static_view}
use Rattle.f3_declaration_nodes.specs.Variables.{static_by}
use Rattle.f3_variable_nodes.specs.Inner.Walk.{procedure_statics}
use Rattle.f3_variable_nodes.proofs.statics.add_procedures.Given as goal

abbrev pub invariant-loop-procedure : goal.invariant-loop-procedure
invariant-loop-procedure l = record {
  fit : Fit l.fn.firsts (2 ^ 64 - 1) l.next (map procedure_view (drop l.procedure-index l.fn.list));
  next : end_of l.next (map procedure_view (drop l.procedure-index l.fn.list)) ≡ end_of l.fn.scope (map procedure_view l.fn.list);
  found : map static_view l.found.items
      ++ map (static_by l.fn.whole) (along (procedure_statics l.fn.firsts l.fn.unit) l.next (map procedure_view (drop l.procedure-index l.fn.list)))
      ≡ map static_view l.fn.found.items ++ map (static_by l.fn.whole) (along (procedure_statics l.fn.firsts l.fn.unit) l.fn.scope (map procedure_view l.fn.list));
}
