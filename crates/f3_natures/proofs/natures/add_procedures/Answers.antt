use Rattle.std.proofs.Common.{rules, refl, sym, ◌∙◌, List, map, ◌^◌}
use Rattle.std.proofs.lemmas.List.{at_drop_all}
use Rattle.f3_tree.specs.declared.program.Procedure.{Procedure}
use Rattle.f3_tree.specs.Tree.{procedure_view}
use Rattle.f3_typed_parts.specs.Known.{nature_of}
use Rattle.f3_natures.specs.Known.{names_view}
use Rattle.f3_natures.specs.Walk.{end_of, final_made, procedure_made, inner_made, all_finals, all_made, all_inner}
use Rattle.f3_natures.proofs.Growing.{grown_whole}
use Rattle.f3_natures.proofs.Steps.{end_fits, end_more, along_more}
use Rattle.f3_natures.proofs.natures.add_procedures.Goals as goal

pub add_inner-requires : goal.add_inner-requires
add_inner-requires c =
    end_fits c.args.list.now c.loop-procedure.procedure-index c.procedure-item.result c.loop-procedure.next _ (2 ^ 64) c.loop-procedure-test.true c.procedure-item.is c.loop-procedure.invariant.next c.requires

pub loop-procedure-preserved : goal.loop-procedure-preserved
loop-procedure-preserved c =
    let names = names_view c.args.names.now in
    let i = c.loop-procedure.procedure-index in
    let x = c.procedure-item.result in
    let s = c.loop-procedure.next in
    let s' = c.in_ok-next.next in
    record {
      next = end_more c.args.list.now i x s s' _ c.loop-procedure-test.true c.procedure-item.is (search rules) c.loop-procedure.invariant.next;
      finals = along_more (final_made names) c.args.list.now i x s s' c.loop-procedure.finals.items c.add_procedure.new.finals.items _ c.loop-procedure-test.true c.procedure-item.is (search rules) (search rules) c.loop-procedure.invariant.finals;
      made = along_more (procedure_made names) c.args.list.now i x s s' (map nature_of c.loop-procedure.made.items) (map nature_of c.add_procedure.new.made.items) _ c.loop-procedure-test.true c.procedure-item.is (search rules) (search rules) c.loop-procedure.invariant.made;
      inner = along_more (inner_made names) c.args.list.now i x s s' (map nature_of c.loop-procedure.inner.items) (map nature_of c.add_inner.new.inner.items) _ c.loop-procedure-test.true c.procedure-item.is (search rules) (search rules) c.loop-procedure.invariant.inner;
    }

pub returns-clause-next : goal.returns-clause-next
returns-clause-next c =
    sym (at_drop_all (λ (ps : List Procedure). end_of c.loop-procedure.next (map procedure_view ps)) c.args.list.now c.loop-procedure.procedure-index c.loop-procedure-test.false)
    ∙ c.loop-procedure.invariant.next

pub returns-clause-finals : goal.returns-clause-finals
returns-clause-finals c =
    grown_whole (λ (ps : List Procedure). all_finals (names_view c.args.names.now) c.loop-procedure.next (map procedure_view ps)) refl
    c.args.list.now c.loop-procedure.procedure-index c.loop-procedure.finals.items _ c.loop-procedure-test.false c.loop-procedure.invariant.finals

pub returns-clause-made : goal.returns-clause-made
returns-clause-made c =
    grown_whole (λ (ps : List Procedure). all_made (names_view c.args.names.now) c.loop-procedure.next (map procedure_view ps)) refl
    c.args.list.now c.loop-procedure.procedure-index (map nature_of c.loop-procedure.made.items) _ c.loop-procedure-test.false c.loop-procedure.invariant.made

pub returns-clause-inner : goal.returns-clause-inner
returns-clause-inner c =
    grown_whole (λ (ps : List Procedure). all_inner (names_view c.args.names.now) c.loop-procedure.next (map procedure_view ps)) refl
    c.args.list.now c.loop-procedure.procedure-index (map nature_of c.loop-procedure.inner.items) _ c.loop-procedure-test.false c.loop-procedure.invariant.inner
