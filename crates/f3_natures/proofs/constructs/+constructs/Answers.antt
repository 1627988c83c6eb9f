use Rattle.std.proofs.Common.{◌≡◌, rules, refl, sym, ap, ◌∙◌, [], ◌∷◌, ◌++◌, List, length, map}
use Rattle.std.proofs.lemmas.Result.{on_ok_weaker}
use Rattle.std.specs.Global.{Vec}
use Rattle.std.proofs.lemmas.List.{length-map, map-append}
use Rattle.f3_places.specs.declared.source.Place.{Place}
use Rattle.f3_tree.specs.declared.expression.Expression.{Expression}
use Rattle.f3_tree.specs.declared.statement.Selector.{Selector}
use Rattle.f3_tree.specs.declared.statement.Statement.{Statement}
use Rattle.f3_tree.specs.Statements.{StatementTree, association_view, statement_view, block_of, block_view}
use Rattle.f3_type_rules.specs.Associates.{constructs_of, constructs_of_block, constructs_of_branches, constructs_of_cases}
use Rattle.f3_scopes.specs.Blocks.{branches_in, branches_view, cases_in, cases_view}
use Rattle.f3_scopes.proofs.Views.{view_if, view_select}
use Rattle.f3_natures.proofs.Blocks.{of_action, of_logical, of_if, of_else, of_select, of_do, of_associate, none_added, one_added, both_added}
use Rattle.f3_natures.proofs.Growing.{grown_more, grown_whole}
use Rattle.f3_natures.proofs.constructs.+constructs.Goals as goal

pub add_block-loop-statement-preserved : goal.add_block-loop-statement-preserved
add_block-loop-statement-preserved t c =
    grown_more (λ (s : Statement). map length (constructs_of (statement_view s)))
    (λ (ss : List Statement). map length (constructs_of_block (block_of (map statement_view ss))))
    (λ s ss. map-append length (constructs_of (statement_view s)) (constructs_of_block (block_of (map statement_view ss))))
    c.args.block.now c.loop-statement.statement-index c.statement-item.result c.loop-statement.found.items c.add_statement.new.found.items _
    c.loop-statement-test.true c.statement-item.is (search rules) c.loop-statement.invariant

pub add_branches-loop-body-init : goal.add_branches-loop-body-init
add_branches-loop-body-init t c =
    rw (ap (λ (s : Statement). branches_in (statement_view s)) c.in-If.is ∙ ap (λ (x : StatementTree). branches_in x) (view_if c.in-If.branches c.in-If.field-1)) (search rules)

pub add_branches-loop-body-preserved : goal.add_branches-loop-body-preserved
add_branches-loop-body-preserved t c =
    grown_more (λ (b : Place × Expression × Vec Statement). map length (constructs_of_block (block_view b.2)))
    (λ (bs : List (Place × Expression × Vec Statement)). map length (constructs_of_branches (branches_view bs)))
    (λ b bs. map-append length (constructs_of_block (block_view b.2)) (constructs_of_branches (branches_view bs)))
    c.deref-body-items.result.now c.loop-body.body-index c.loop-body-item.result c.loop-body.found.items c.add_block.new.found.items _
    c.loop-body-test.true c.loop-body-item.is (search rules) c.loop-body.invariant

pub add_cases-loop-body-init : goal.add_cases-loop-body-init
add_cases-loop-body-init t c =
    rw (ap (λ (s : Statement). cases_in (statement_view s)) c.in-Select.is ∙ ap (λ (x : StatementTree). cases_in x) (view_select c.in-Select.field-0 c.in-Select.field-1 c.in-Select.cases)) (search rules)

pub add_cases-loop-body-preserved : goal.add_cases-loop-body-preserved
add_cases-loop-body-preserved t c =
    grown_more (λ (b : Place × Selector × Vec Statement). map length (constructs_of_block (block_view b.2)))
    (λ (bs : List (Place × Selector × Vec Statement)). map length (constructs_of_cases (cases_view bs)))
    (λ b bs. map-append length (constructs_of_block (block_view b.2)) (constructs_of_cases (cases_view bs)))
    c.deref-body-items.result.now c.loop-body.body-index c.loop-body-item.result c.loop-body.found.items c.add_block.new.found.items _
    c.loop-body-test.true c.loop-body-item.is (search rules) c.loop-body.invariant

pub add_statement-returns-in-Action : goal.add_statement-returns-in-Action
add_statement-returns-in-Action t c = none_added _ _ (of_action c.args.statement.now c.in-Action.field-0 c.in-Action.field-1 c.in-Action.is)

pub add_statement-returns-in-LogicalIf : goal.add_statement-returns-in-LogicalIf
add_statement-returns-in-LogicalIf t c =
    none_added _ _ (of_logical c.args.statement.now c.in-LogicalIf.field-0 c.in-LogicalIf.field-1 c.in-LogicalIf.field-2 c.in-LogicalIf.field-3 c.in-LogicalIf.is)

pub add_statement-returns-in-None : goal.add_statement-returns-in-None
add_statement-returns-in-None t c =
    one_added c.args.found.now.items c.add_branches.new.found.items _ _ (of_if c.args.statement.now c.in-If.field-0 c.in-If.other c.in-If.is c.in-None.is) (search rules)

pub add_statement-returns-in-Some : goal.add_statement-returns-in-Some
add_statement-returns-in-Some t c =
    on_ok_weaker c.add_block.result
    (λ e. both_added c.args.found.now.items c.add_branches.new.found.items c.add_block.new.found.items _ (constructs_of_branches (branches_in (statement_view c.args.statement.now))) _
    (of_else c.args.statement.now c.in-If.field-0 c.in-If.other c.in-Some.body c.deref.result.now c.in-If.is c.in-Some.is c.deref.ensures.value) (search rules) e)
    c.add_block.ensures

pub add_statement-returns-in-Select : goal.add_statement-returns-in-Select
add_statement-returns-in-Select t c =
    on_ok_weaker c.add_cases.result
    (λ e. one_added c.args.found.now.items c.add_cases.new.found.items _ _ (of_select c.args.statement.now c.in-Select.field-0 c.in-Select.field-1 c.in-Select.field-2 c.in-Select.is) e)
    c.add_cases.ensures

pub add_statement-returns-in-Do : goal.add_statement-returns-in-Do
add_statement-returns-in-Do t c =
    on_ok_weaker c.add_block-in-Do.result
    (λ e. one_added c.args.found.now.items c.add_block-in-Do.new.found.items _ _
    (of_do c.args.statement.now c.in-Do.field-0 c.in-Do.field-1 c.in-Do.body c.deref-in-Do.result.now c.in-Do.is c.deref-in-Do.ensures.value) e)
    c.add_block-in-Do.ensures

pub add_statement-returns-in_ok-push-in-Associate : goal.add_statement-returns-in_ok-push-in-Associate
add_statement-returns-in_ok-push-in-Associate t c =
    let e : c.push.new.self.items ≡ c.args.found.now.items ++ c.len.result ∷ [] = search rules in
    let l : c.len.result ≡ length c.in-Associate.list.items = search rules in
    let n : c.len.result ≡ length (map association_view c.in-Associate.list.items) = l ∙ sym (length-map c.in-Associate.list.items association_view) in
    on_ok_weaker c.add_block-in-Associate.result
    (λ h. both_added c.args.found.now.items c.push.new.self.items c.add_block-in-Associate.new.found.items _ (map association_view c.in-Associate.list.items ∷ []) _
    (of_associate c.args.statement.now c.in-Associate.field-0 c.in-Associate.list c.in-Associate.body c.deref-in-Associate.result.now c.in-Associate.is c.deref-in-Associate.ensures.value)
    (e ∙ ap (λ k. c.args.found.now.items ++ k ∷ []) n) h)
    c.add_block-in-Associate.ensures

pub add_block-returns : goal.add_block-returns
add_block-returns t c =
    grown_whole (λ (ss : List Statement). map length (constructs_of_block (block_of (map statement_view ss)))) refl
    c.args.block.now c.loop-statement.statement-index c.loop-statement.found.items _ c.loop-statement-test.false c.loop-statement.invariant

pub add_branches-returns-after-loop-body : goal.add_branches-returns-after-loop-body
add_branches-returns-after-loop-body t c =
    grown_whole (λ (bs : List (Place × Expression × Vec Statement)). map length (constructs_of_branches (branches_view bs))) refl
    c.deref-body-items.result.now c.loop-body.body-index c.loop-body.found.items _ c.loop-body-test.false c.loop-body.invariant

pub add_cases-returns-after-loop-body : goal.add_cases-returns-after-loop-body
add_cases-returns-after-loop-body t c =
    grown_whole (λ (bs : List (Place × Selector × Vec Statement)). map length (constructs_of_cases (cases_view bs))) refl
    c.deref-body-items.result.now c.loop-body.body-index c.loop-body.found.items _ c.loop-body-test.false c.loop-body.invariant
