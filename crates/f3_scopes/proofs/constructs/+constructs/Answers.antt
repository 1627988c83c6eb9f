use Rattle.std.proofs.Common.{rules, refl, ap, ◌∙◌, List, length, map}
use Rattle.std.proofs.lemmas.Result.{on_ok_weaker}
use Rattle.f3_tree.specs.declared.statement.Statement.{Statement}
use Rattle.f3_tree.specs.Statements.{StatementTree, association_view, statement_view, block_of, block_view}
use Rattle.f3_scopes.specs.Outlines.{scope_view}
use Rattle.f3_scopes.specs.Scopes.{construct_name, scope_of_construct, constructs_in, constructs_in_block, constructs_in_branches, constructs_in_cases}
use Rattle.f3_scopes.specs.Blocks.{branches_in, branches_view, cases_in, cases_view}
use Rattle.f3_scopes.proofs.Views.{view_if, view_select, view_associate}
use Rattle.f3_scopes.proofs.Blocks.{of_action, of_logical, of_if, of_else, of_do, none_added, one_added}
use Rattle.f3_scopes.proofs.Growing.{joined, step, stepped_whole, begun}
use Rattle.f3_scopes.proofs.constructs.+constructs.Goals as goal

pub add_branches-loop-body-init : goal.add_branches-loop-body-init
add_branches-loop-body-init t c =
    rw (ap (λ (s : Statement). branches_in (statement_view s)) c.in-If.is ∙ ap (λ (x : StatementTree). branches_in x) (view_if c.in-If.branches c.in-If.field-1)) (search rules)

pub add_branches-loop-body-preserved : goal.add_branches-loop-body-preserved
add_branches-loop-body-preserved t c =
    step (λ n b. constructs_in_block c.args.host c.args.around n (block_view b.2)) (λ n bs. constructs_in_branches c.args.host c.args.around n (branches_view bs)) (λ n x xs. refl)
    c.deref-body-items.result.now c.loop-body.body-index c.loop-body-item.result c.loop-body.found.items c.add_block.new.found.items _ c.loop-body-test.true
    (search rules) c.loop-body.invariant

pub add_cases-loop-body-init : goal.add_cases-loop-body-init
add_cases-loop-body-init t c =
    rw (ap (λ (s : Statement). cases_in (statement_view s)) c.in-Select.is ∙ ap (λ (x : StatementTree). cases_in x) (view_select c.in-Select.field-0 c.in-Select.field-1 c.in-Select.cases)) (search rules)

pub add_cases-loop-body-preserved : goal.add_cases-loop-body-preserved
add_cases-loop-body-preserved t c =
    step (λ n b. constructs_in_block c.args.host c.args.around n (block_view b.2)) (λ n bs. constructs_in_cases c.args.host c.args.around n (cases_view bs)) (λ n x xs. refl)
    c.deref-body-items.result.now c.loop-body.body-index c.loop-body-item.result c.loop-body.found.items c.add_block.new.found.items _ c.loop-body-test.true
    (search rules) c.loop-body.invariant

pub add_statement-returns-in-Select : goal.add_statement-returns-in-Select
add_statement-returns-in-Select t c =
    rw (ap (λ (s : Statement). constructs_in c.args.host c.args.around (length c.args.found.now.items) (statement_view s)) c.in-Select.is
    ∙ ap (λ (x : StatementTree). constructs_in c.args.host c.args.around (length c.args.found.now.items) x) (view_select c.in-Select.field-0 c.in-Select.field-1 c.in-Select.field-2))
    (rw (ap (λ (s : Statement). cases_in (statement_view s)) c.in-Select.is ∙ ap (λ (x : StatementTree). cases_in x) (view_select c.in-Select.field-0 c.in-Select.field-1 c.in-Select.field-2)) at c.add_cases.ensures)

pub add_statement-returns-in_ok-push-in-Associate : goal.add_statement-returns-in_ok-push-in-Associate
add_statement-returns-in_ok-push-in-Associate t c =
    rw (ap (λ (s : Statement). constructs_in c.args.host c.args.around (length c.args.found.now.items) (statement_view s)) c.in-Associate.is
    ∙ ap (λ (x : StatementTree). constructs_in c.args.host c.args.around (length c.args.found.now.items) x) (view_associate c.in-Associate.field-0 c.in-Associate.list c.in-Associate.body))
    (on_ok_weaker c.add_block-in-Associate.result
    (λ e. e ∙ begun c.args.found.now.items c.push.new.self.items c.in_ok-scope-in-Associate.scope
    (scope_of_construct c.args.host c.args.around (map association_view c.in-Associate.list.items))
    c.len-number.result c.construct_name.result (construct_name c.args.around (map association_view c.in-Associate.list.items))
    (block_of (map statement_view c.deref-in-Associate-3.result.now)) (block_view c.in-Associate.body)
    (search rules) (search rules) (search rules) (search rules) (search rules))
    c.add_block-in-Associate.ensures)

pub add_statement-returns-in-Action : goal.add_statement-returns-in-Action
add_statement-returns-in-Action t c =
    none_added _ _ (of_action c.args.host c.args.around (length c.args.found.now.items) c.args.statement.now c.in-Action.field-0 c.in-Action.field-1 c.in-Action.is)

pub add_statement-returns-in-LogicalIf : goal.add_statement-returns-in-LogicalIf
add_statement-returns-in-LogicalIf t c =
    none_added _ _ (of_logical c.args.host c.args.around (length c.args.found.now.items) c.args.statement.now
    c.in-LogicalIf.field-0 c.in-LogicalIf.field-1 c.in-LogicalIf.field-2 c.in-LogicalIf.field-3 c.in-LogicalIf.is)

pub add_statement-returns-in-None : goal.add_statement-returns-in-None
add_statement-returns-in-None t c =
    one_added (map scope_view c.args.found.now.items) (map scope_view c.add_branches.new.found.items) _ _
    (of_if c.args.host c.args.around (length c.args.found.now.items) c.args.statement.now c.in-If.field-0 c.in-If.other c.in-If.is c.in-None.is) (search rules)

pub add_statement-returns-in-Some : goal.add_statement-returns-in-Some
add_statement-returns-in-Some t c =
    let n = length c.args.found.now.items in
    on_ok_weaker c.add_block.result
    (λ e. one_added (map scope_view c.args.found.now.items) (map scope_view c.add_block.new.found.items) _ _
    (of_else c.args.host c.args.around n c.args.statement.now c.in-If.field-0 c.in-If.other c.in-Some.body c.deref.result.now c.in-If.is c.in-Some.is c.deref.ensures.value)
    (joined c.args.found.now.items c.add_branches.new.found.items c.add_block.new.found.items
    (constructs_in_branches c.args.host c.args.around n (branches_in (statement_view c.args.statement.now)))
    (λ m. constructs_in_block c.args.host c.args.around m (block_of (map statement_view c.deref.result.now))) (search rules) e))
    c.add_block.ensures

pub add_statement-returns-in-Do : goal.add_statement-returns-in-Do
add_statement-returns-in-Do t c =
    on_ok_weaker c.add_block-in-Do.result
    (λ e. one_added (map scope_view c.args.found.now.items) (map scope_view c.add_block-in-Do.new.found.items) _ _
    (of_do c.args.host c.args.around (length c.args.found.now.items) c.args.statement.now c.in-Do.field-0 c.in-Do.field-1 c.in-Do.body c.deref-in-Do.result.now c.in-Do.is c.deref-in-Do.ensures.value) e)
    c.add_block-in-Do.ensures

pub add_block-loop-statement-preserved : goal.add_block-loop-statement-preserved
add_block-loop-statement-preserved t c =
    step (λ n (s : Statement). constructs_in c.args.host c.args.around n (statement_view s)) (λ n ss. constructs_in_block c.args.host c.args.around n (block_of (map statement_view ss))) (λ n x xs. refl)
    c.args.block.now c.loop-statement.statement-index c.statement-item.result c.loop-statement.found.items c.add_statement.new.found.items _ c.loop-statement-test.true
    (search rules) c.loop-statement.invariant

pub add_block-returns : goal.add_block-returns
add_block-returns t c =
    stepped_whole (λ n (ss : List Statement). constructs_in_block c.args.host c.args.around n (block_of (map statement_view ss))) (λ n. refl)
    c.args.block.now c.loop-statement.statement-index c.loop-statement.found.items _ c.loop-statement-test.false c.loop-statement.invariant

pub add_branches-returns-after-loop-body : goal.add_branches-returns-after-loop-body
add_branches-returns-after-loop-body t c =
    stepped_whole (λ n bs. constructs_in_branches c.args.host c.args.around n (branches_view bs)) (λ n. refl)
    c.deref-body-items.result.now c.loop-body.body-index c.loop-body.found.items _ c.loop-body-test.false c.loop-body.invariant

pub add_cases-returns-after-loop-body : goal.add_cases-returns-after-loop-body
add_cases-returns-after-loop-body t c =
    stepped_whole (λ n bs. constructs_in_cases c.args.host c.args.around n (cases_view bs)) (λ n. refl)
    c.deref-body-items.result.now c.loop-body.body-index c.loop-body.found.items _ c.loop-body-test.false c.loop-body.invariant
