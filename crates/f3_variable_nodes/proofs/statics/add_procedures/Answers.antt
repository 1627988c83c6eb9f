use Rattle.std.proofs.Common.{◌≡◌, ◌≤◌, ◌+◌, ℕ, List, map, length, get_or, arith, rules}
use Rattle.std.proofs.lemmas.List.{map-append}
use Rattle.std.proofs.lemmas.Option.{get_or_from_slice_get}
use Rattle.f3_tree.specs.declared.program.Procedure.{Procedure}
use Rattle.f3_tree.specs.Tree.{procedure_view}
use Rattle.f3_natures.specs.Walk.{along, count_of}
use Rattle.f3_natures.proofs.Steps.{end_more}
use Rattle.f3_unit_rules.proofs.Walked.{scope_behind, scope_within, behind_within, fit_here, fit_more}
use Rattle.f3_declaration_nodes.specs.Variables.{static_by}
use Rattle.f3_variable_nodes.specs.Inner.Walk.{procedure_statics}
use Rattle.f3_variable_nodes.proofs.Walking.{walked}
use Rattle.f3_variable_nodes.proofs.statics.add_procedures.Goals as goal

pub add_procedure-requires-clause-known : goal.add_procedure-requires-clause-known
add_procedure-requires-clause-known c =
    scope_within c.args.firsts.now _ c.loop-procedure.next c.args.list.now c.loop-procedure.procedure-index c.procedure-item.result c.loop-procedure-test.true c.procedure-item.is c.loop-procedure.invariant.fit

pub add_procedure-requires-clause-room : goal.add_procedure-requires-clause-room
add_procedure-requires-clause-room c =
    let here = fit_here c.args.firsts.now _ c.loop-procedure.next c.args.list.now c.loop-procedure.procedure-index c.procedure-item.result c.loop-procedure-test.true c.procedure-item.is c.loop-procedure.invariant.fit in
    let same : get_or c.args.firsts.now c.loop-procedure.next 0 ≡ here.0.0 = get_or_from_slice_get c.args.firsts.now c.loop-procedure.next here.0.0 0 here.0.1 in
    let room = here.0.2 in
    omega (arith, same, room)

pub add_procedure-requires-clause-scopes : goal.add_procedure-requires-clause-scopes
add_procedure-requires-clause-scopes c =
    let k : scope_behind c.loop-procedure.next (procedure_view c.procedure-item.result) ≤ length c.args.firsts.now =
    behind_within c.args.firsts.now _ c.loop-procedure.next c.args.list.now c.loop-procedure.procedure-index c.procedure-item.result c.loop-procedure-test.true c.procedure-item.is c.loop-procedure.invariant.fit in
    search rules

pub loop-procedure-preserved : goal.loop-procedure-preserved
loop-procedure-preserved c = record {
  fit = fit_more c.args.firsts.now _ c.loop-procedure.next c.in_ok-next.next c.args.list.now c.loop-procedure.procedure-index c.procedure-item.result c.loop-procedure-test.true c.procedure-item.is
      c.in_ok-next.ensures.next c.loop-procedure.invariant.fit;
  next = end_more c.args.list.now c.loop-procedure.procedure-index c.procedure-item.result c.loop-procedure.next c.in_ok-next.next _ c.loop-procedure-test.true c.procedure-item.is
      c.in_ok-next.ensures.next c.loop-procedure.invariant.next;
  found = walked (λ (n : ℕ) (p : Procedure). map (static_by c.args.whole) (procedure_statics c.args.firsts.now c.args.unit n (procedure_view p)))
      (λ (n : ℕ) (ps : List Procedure). map (static_by c.args.whole) (along (procedure_statics c.args.firsts.now c.args.unit) n (map procedure_view ps)))
      (λ (n : ℕ) (p : Procedure). n + 1 + count_of (procedure_view p).body)
      (λ n p ps. map-append (static_by c.args.whole) (procedure_statics c.args.firsts.now c.args.unit n (procedure_view p))
      (along (procedure_statics c.args.firsts.now c.args.unit) (n + 1 + count_of (procedure_view p).body) (map procedure_view ps)))
      c.args.list.now c.loop-procedure.procedure-index c.procedure-item.result c.loop-procedure.next c.in_ok-next.next _ _ _ c.loop-procedure-test.true c.procedure-item.is
      c.in_ok-next.ensures.next c.in_ok-next.ensures.found c.loop-procedure.invariant.found;
}
