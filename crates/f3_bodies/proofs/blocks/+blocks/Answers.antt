use Rattle.std.proofs.Common.{◌≡◌, ◌+◌, ◌++◌, List, refl, arith, sym, ap, ◌∙◌, map}
use Rattle.f3_places.specs.declared.source.Place.{Place}
use Rattle.f3_tree.specs.declared.expression.Expression.{Expression}
use Rattle.f3_tree.specs.declared.statement.Selector.{Selector}
use Rattle.f3_tree.specs.declared.statement.Statement.{Statement}
use Rattle.f3_tree.specs.Expressions.{expression_view}
use Rattle.f3_tree.specs.Statements.{association_view, control_view, action_view, statement_view, block_of, block_view}
use Rattle.f3_scopes.specs.Blocks.{branches_view, branches_in, cases_view, cases_in}
use Rattle.std.specs.Global.{Vec}
use Rattle.std.proofs.lemmas.Result.{on_ok_weaker, IfOk-weaker}
use Rattle.f3_type_rules.specs.Statements.{condition_breaks}
use Rattle.f3_type_rules.specs.Bodies.{statement_breaks, block_breaks, branch_breaks, case_breaks}
use Rattle.f3_typed_parts.specs.Noted.{noted}
use Rattle.f3_typed_parts.proofs.Noting.{noted_done}
use Rattle.f3_sites.specs.Sites.{site_of}
use Rattle.f3_bodies.specs.Inner.Counts.{count_of, count_of_block, count_of_branches, count_of_cases}
use Rattle.f3_bodies.specs.Inner.Weights.{weight, weight_of_block, weight_of_branches, weight_of_cases}
use Rattle.f3_bodies.proofs.Walk.{walked, numbered, within, lighter}
use Rattle.f3_bodies.proofs.Arms.{action_is, logical_is, if_is, else_is, select_is, select_in, do_is, associate_is, logical_noted, else_noted, select_noted, do_noted, associate_noted}
use Rattle.f3_bodies.proofs.Arms.{loop_site, loop_settled, inside_settled, settled_by, branches_count, do_count, associate_count, else_weight, do_weight, associate_weight}
use Rattle.f3_bodies.proofs.Arms.{branches_are, cases_are, branch_noted, case_noted, branches_more, if_weight, select_weight, one_noted, no_branches_noted, no_branches_next, no_cases_noted, no_cases_next, statements_sum, branches_sum, cases_sum, held}
use Rattle.f3_bodies.proofs.blocks.+blocks.Goals as goal

pub block-one-requires : goal.block-one-requires
block-one-requires t c =
    let h = lighter (λ (s : Statement). weight (statement_view s)) (λ (xs : List Statement). weight_of_block (block_of (map statement_view xs))) (λ x xs. refl)
    c.args.statements.now c.loop-statement.statement-index c.statement-item.result c.loop-statement-test.true c.statement-item.is in (
      omega (arith, h, c.decreases),
      (
        settled_by (site_of c.args.site.now) (site_of c.loop-statement.site) c.loop-statement.invariant.site c.requires.settled,
        within (λ (s : Statement). count_of (statement_view s)) (λ (xs : List Statement). count_of_block (block_of (map statement_view xs))) statements_sum
            c.args.statements.now c.loop-statement.statement-index c.statement-item.result c.loop-statement.next _ c.loop-statement-test.true c.statement-item.is c.loop-statement.invariant.numbers c.requires.numbers,
      ),
    )

pub block-loop-statement-preserved : goal.block-loop-statement-preserved
block-loop-statement-preserved t c = record {
  noted = walked (λ n (s : Statement). statement_breaks (site_of c.args.site.now) n (statement_view s)) (λ n (xs : List Statement). block_breaks (site_of c.args.site.now) n (block_of (map statement_view xs)))
      (λ (s : Statement). count_of (statement_view s)) (λ n x xs. refl)
      c.args.statements.now c.loop-statement.statement-index c.statement-item.result c.loop-statement.next c.in_ok-next.next c.loop-statement.first c.one.new.first _ c.loop-statement-test.true c.statement-item.is
      (one_noted (site_of c.args.site.now) (site_of c.loop-statement.site) c.loop-statement.next (statement_view c.statement-item.result) c.loop-statement.first c.one.new.first c.loop-statement.invariant.site c.in_ok-next.ensures.noted)
      c.in_ok-next.ensures.next c.loop-statement.invariant.noted;
  numbers = numbered (λ (s : Statement). count_of (statement_view s)) (λ (xs : List Statement). count_of_block (block_of (map statement_view xs))) statements_sum
      c.args.statements.now c.loop-statement.statement-index c.statement-item.result c.loop-statement.next c.in_ok-next.next _ c.loop-statement-test.true c.statement-item.is c.in_ok-next.ensures.next c.loop-statement.invariant.numbers;
  site = c.in_ok-next.ensures.site ∙ c.loop-statement.invariant.site;
  room = c.in_ok-next.ensures.room ∙ c.loop-statement.invariant.room;
}

pub block-returns-clause-noted : goal.block-returns-clause-noted
block-returns-clause-noted t c =
    noted_done (λ (xs : List Statement). block_breaks (site_of c.args.site.now) c.loop-statement.next (block_of (map statement_view xs)))
    c.args.statements.now c.loop-statement.statement-index c.loop-statement.first _ (omega (arith, c.loop-statement-test.false)) refl c.loop-statement.invariant.noted

pub branches-loop-e-init : goal.branches-loop-e-init
branches-loop-e-init t c =
    let v = branches_are c.args.statement.now c.in-If.branches c.in-If.field-1 c.deref-e-items.result.now c.in-If.is c.deref-e-items.ensures.value in
    record {
      noted = ap (λ bs. noted c.args.first.now (branch_breaks (site_of c.args.site.now) c.args.next bs)) (sym v);
      numbers = ap (λ bs. c.args.next + count_of_branches bs) (sym v);
      site = refl;
      room = refl;
    }

pub branches-block-requires : goal.branches-block-requires
branches-block-requires t c =
    let h = lighter (λ (x : Place × Expression × Vec Statement). weight_of_block (block_view x.2)) (λ (xs : List (Place × Expression × Vec Statement)). weight_of_branches (branches_view xs)) (λ x xs. refl)
    c.deref-e-items.result.now c.loop-e.e-index c.loop-e-item.result c.loop-e-test.true c.loop-e-item.is in
    let k = if_weight c.args.statement.now c.in-If.branches c.in-If.field-1 c.deref-e-items.result.now c.in-If.is c.deref-e-items.ensures.value in
    let b = held c.loop-e-item.result.2 c.deref.result.now c.deref.ensures.value in
    let w = ap weight_of_block b in
    let n = ap count_of_block b in
    let m = within (λ (x : Place × Expression × Vec Statement). count_of_block (block_view x.2)) (λ (xs : List (Place × Expression × Vec Statement)). count_of_branches (branches_view xs)) branches_sum
    c.deref-e-items.result.now c.loop-e.e-index c.loop-e-item.result c.loop-e.next (c.args.next + count_of_branches (branches_in (statement_view c.args.statement.now))) c.loop-e-test.true c.loop-e-item.is c.loop-e.invariant.numbers c.requires.numbers in
    (omega (arith, h, k, w, c.decreases), (settled_by (site_of c.args.site.now) (site_of c.loop-e.site) c.loop-e.invariant.site c.requires.settled, omega (arith, m, n)))

pub branches-loop-e-preserved : goal.branches-loop-e-preserved
branches-loop-e-preserved t c =
    let b = held c.loop-e-item.result.2 c.deref.result.now c.deref.ensures.value in
    let m = c.in_ok-next-in-If.ensures.next ∙ ap (λ x. c.loop-e.next + count_of_block x) b in
    record {
      noted = walked (λ n (x : Place × Expression × Vec Statement). condition_breaks (site_of c.args.site.now).context (expression_view x.1) ++ block_breaks (site_of c.args.site.now) n (block_view x.2))
          (λ n (xs : List (Place × Expression × Vec Statement)). branch_breaks (site_of c.args.site.now) n (branches_view xs)) (λ (x : Place × Expression × Vec Statement). count_of_block (block_view x.2))
          (branches_more (site_of c.args.site.now))
          c.deref-e-items.result.now c.loop-e.e-index c.loop-e-item.result c.loop-e.next c.in_ok-next-in-If.next c.loop-e.first c.block.new.first _ c.loop-e-test.true c.loop-e-item.is
          (branch_noted (site_of c.args.site.now) (site_of c.loop-e.site) c.loop-e.next (expression_view c.loop-e-item.result.1) (block_view c.loop-e-item.result.2) _ c.loop-e.first c.condition.new.first c.block.new.first
          c.loop-e.invariant.site b c.in_ok-condition-in-If.ensures.noted c.in_ok-next-in-If.ensures.noted)
          m c.loop-e.invariant.noted;
      numbers = numbered (λ (x : Place × Expression × Vec Statement). count_of_block (block_view x.2)) (λ (xs : List (Place × Expression × Vec Statement)). count_of_branches (branches_view xs)) branches_sum
          c.deref-e-items.result.now c.loop-e.e-index c.loop-e-item.result c.loop-e.next c.in_ok-next-in-If.next _ c.loop-e-test.true c.loop-e-item.is m c.loop-e.invariant.numbers;
      site = c.in_ok-next-in-If.ensures.site ∙ c.loop-e.invariant.site;
      room = c.in_ok-next-in-If.ensures.room ∙ c.loop-e.invariant.room;
    }

pub branches-returns-after-loop-e-clause-noted : goal.branches-returns-after-loop-e-clause-noted
branches-returns-after-loop-e-clause-noted t c =
    noted_done (λ (xs : List (Place × Expression × Vec Statement)). branch_breaks (site_of c.args.site.now) c.loop-e.next (branches_view xs))
    c.deref-e-items.result.now c.loop-e.e-index c.loop-e.first _ (omega (arith, c.loop-e-test.false)) refl c.loop-e.invariant.noted

pub cases-loop-body-init : goal.cases-loop-body-init
cases-loop-body-init t c =
    let v = cases_are c.args.statement.now c.in-Select.field-0 c.in-Select.field-1 c.in-Select.cases c.deref-body-items.result.now c.in-Select.is c.deref-body-items.ensures.value in
    record {
      noted = ap (λ cs. noted c.args.first.now (case_breaks (site_of c.args.site.now) c.args.next cs)) (sym v);
      numbers = ap (λ cs. c.args.next + count_of_cases cs) (sym v);
      site = refl;
      room = refl;
    }

pub cases-block-requires : goal.cases-block-requires
cases-block-requires t c =
    let h = lighter (λ (x : Place × Selector × Vec Statement). weight_of_block (block_view x.2)) (λ (xs : List (Place × Selector × Vec Statement)). weight_of_cases (cases_view xs)) (λ x xs. refl)
    c.deref-body-items.result.now c.loop-body.body-index c.loop-body-item.result c.loop-body-test.true c.loop-body-item.is in
    let k = select_weight c.args.statement.now c.in-Select.field-0 c.in-Select.field-1 c.in-Select.cases c.deref-body-items.result.now c.in-Select.is c.deref-body-items.ensures.value in
    let b = held c.loop-body-item.result.2 c.deref.result.now c.deref.ensures.value in
    let w = ap weight_of_block b in
    let n = ap count_of_block b in
    let m = within (λ (x : Place × Selector × Vec Statement). count_of_block (block_view x.2)) (λ (xs : List (Place × Selector × Vec Statement)). count_of_cases (cases_view xs)) cases_sum
    c.deref-body-items.result.now c.loop-body.body-index c.loop-body-item.result c.loop-body.next (c.args.next + count_of_cases (cases_in (statement_view c.args.statement.now))) c.loop-body-test.true c.loop-body-item.is c.loop-body.invariant.numbers c.requires.numbers in
    (omega (arith, h, k, w, c.decreases), (settled_by (site_of c.args.site.now) (site_of c.loop-body.site) c.loop-body.invariant.site c.requires.settled, omega (arith, m, n)))

pub cases-loop-body-preserved : goal.cases-loop-body-preserved
cases-loop-body-preserved t c =
    let b = held c.loop-body-item.result.2 c.deref.result.now c.deref.ensures.value in
    let m = c.in_ok-next-in-Select.ensures.next ∙ ap (λ x. c.loop-body.next + count_of_block x) b in
    record {
      noted = walked (λ n (x : Place × Selector × Vec Statement). block_breaks (site_of c.args.site.now) n (block_view x.2))
          (λ n (xs : List (Place × Selector × Vec Statement)). case_breaks (site_of c.args.site.now) n (cases_view xs)) (λ (x : Place × Selector × Vec Statement). count_of_block (block_view x.2)) (λ n x xs. refl)
          c.deref-body-items.result.now c.loop-body.body-index c.loop-body-item.result c.loop-body.next c.in_ok-next-in-Select.next c.loop-body.first c.block.new.first _ c.loop-body-test.true c.loop-body-item.is
          (case_noted (site_of c.args.site.now) (site_of c.loop-body.site) c.loop-body.next (block_view c.loop-body-item.result.2) _ c.loop-body.first c.block.new.first c.loop-body.invariant.site b c.in_ok-next-in-Select.ensures.noted)
          m c.loop-body.invariant.noted;
      numbers = numbered (λ (x : Place × Selector × Vec Statement). count_of_block (block_view x.2)) (λ (xs : List (Place × Selector × Vec Statement)). count_of_cases (cases_view xs)) cases_sum
          c.deref-body-items.result.now c.loop-body.body-index c.loop-body-item.result c.loop-body.next c.in_ok-next-in-Select.next _ c.loop-body-test.true c.loop-body-item.is m c.loop-body.invariant.numbers;
      site = c.in_ok-next-in-Select.ensures.site ∙ c.loop-body.invariant.site;
      room = c.in_ok-next-in-Select.ensures.room ∙ c.loop-body.invariant.room;
    }

pub cases-returns-after-loop-body-clause-noted : goal.cases-returns-after-loop-body-clause-noted
cases-returns-after-loop-body-clause-noted t c =
    noted_done (λ (xs : List (Place × Selector × Vec Statement)). case_breaks (site_of c.args.site.now) c.loop-body.next (cases_view xs))
    c.deref-body-items.result.now c.loop-body.body-index c.loop-body.first _ (omega (arith, c.loop-body-test.false)) refl c.loop-body.invariant.noted

pub one-block-requires-in-Do : goal.one-block-requires-in-Do
one-block-requires-in-Do t c =
    let v = do_is c.args.statement.now c.in-Do.field-0 c.in-Do.by c.in-Do.body c.deref-in-Do.result.now c.in-Do.is c.deref-in-Do.ensures.value in
    let w = do_weight (statement_view c.args.statement.now) c.in-Do.field-0 (control_view c.in-Do.by) (block_of (map statement_view c.deref-in-Do.result.now)) v in
    let n = do_count (statement_view c.args.statement.now) c.in-Do.field-0 (control_view c.in-Do.by) (block_of (map statement_view c.deref-in-Do.result.now)) v in
    (omega (arith, w, c.decreases), (loop_settled (site_of c.args.site.now) (site_of c.begin_loop.new.site) _ c.in_ok-begin_loop-in-Do.ensures.site c.requires.settled, omega (arith, n, c.requires.numbers)))

pub one-returns-in_ok-behind-in-Do-clause-noted : goal.one-returns-in_ok-behind-in-Do-clause-noted
one-returns-in_ok-behind-in-Do-clause-noted t c =
    do_noted (site_of c.args.site.now) c.args.next (statement_view c.args.statement.now) (site_of c.begin_loop.new.site) c.in-Do.field-0 (control_view c.in-Do.by)
    (block_of (map statement_view c.deref-in-Do.result.now)) c.args.first.now c.control.new.first _
    (do_is c.args.statement.now c.in-Do.field-0 c.in-Do.by c.in-Do.body c.deref-in-Do.result.now c.in-Do.is c.deref-in-Do.ensures.value)
    (loop_site (site_of c.args.site.now) (site_of c.begin_loop.new.site) c.in_ok-variable-in-Do.variable (control_view c.in-Do.by) c.in_ok-begin_loop-in-Do.ensures.site c.in_ok-variable-in-Do.ensures.active)
    c.in_ok-variable-in-Do.ensures.noted c.in_ok-behind-in-Do.ensures.noted

pub one-block-requires : goal.one-block-requires
one-block-requires t c =
    let v = else_is c.args.statement.now c.in-If.field-0 c.in-If.other c.in-Some.body c.deref.result.now c.in-If.is c.in-Some.is c.deref.ensures.value in
    let w = else_weight (statement_view c.args.statement.now) (branches_view c.in-If.field-0.items) (block_of (map statement_view c.deref.result.now)) v in
    let n = branches_count (statement_view c.args.statement.now) (branches_view c.in-If.field-0.items) (block_of (map statement_view c.deref.result.now)) v in
    let m = c.in_ok-next-in-If.ensures.next ∙ ap (λ x. c.args.next + count_of_branches (branches_in x)) v in
    (omega (arith, w, c.decreases), (settled_by (site_of c.args.site.now) (site_of c.branches.new.site) c.in_ok-next-in-If.ensures.site c.requires.settled, omega (arith, n, m, c.requires.numbers)))

pub one-returns-in-Some-clause-noted : goal.one-returns-in-Some-clause-noted
one-returns-in-Some-clause-noted t c =
    let v = else_is c.args.statement.now c.in-If.field-0 c.in-If.other c.in-Some.body c.deref.result.now c.in-If.is c.in-Some.is c.deref.ensures.value in
    on_ok_weaker c.block.result
    (λ e. else_noted (site_of c.args.site.now) c.args.next (statement_view c.args.statement.now) (site_of c.branches.new.site) (branches_view c.in-If.field-0.items) (block_of (map statement_view c.deref.result.now))
    c.in_ok-next-in-If.next c.args.first.now c.branches.new.first c.block.new.first v c.in_ok-next-in-If.ensures.site
    (c.in_ok-next-in-If.ensures.next ∙ ap (λ x. c.args.next + count_of_branches (branches_in x)) v)
    (c.in_ok-next-in-If.ensures.noted ∙ ap (λ x. noted c.args.first.now (branch_breaks (site_of c.args.site.now) c.args.next (branches_in x))) v) e)
    c.block.ensures.noted

pub one-returns-in-Some-clause-next : goal.one-returns-in-Some-clause-next
one-returns-in-Some-clause-next t c =
    let v = else_is c.args.statement.now c.in-If.field-0 c.in-If.other c.in-Some.body c.deref.result.now c.in-If.is c.in-Some.is c.deref.ensures.value in
    let n = branches_count (statement_view c.args.statement.now) (branches_view c.in-If.field-0.items) (block_of (map statement_view c.deref.result.now)) v in
    let m = c.in_ok-next-in-If.ensures.next ∙ ap (λ x. c.args.next + count_of_branches (branches_in x)) v in
    IfOk-weaker c.block.result (λ k. k ≡ c.in_ok-next-in-If.next + count_of_block (block_of (map statement_view c.deref.result.now))) (λ k. k ≡ c.args.next + count_of (statement_view c.args.statement.now)) (λ k e. omega (arith, n, m, e)) c.block.ensures.next

pub one-block-requires-in-Associate : goal.one-block-requires-in-Associate
one-block-requires-in-Associate t c =
    let v = associate_is c.args.statement.now c.in-Associate.field-0 c.in-Associate.list c.in-Associate.body c.deref-in-Associate.result.now c.deref-in-Associate-3.result.now
    c.in-Associate.is c.deref-in-Associate.ensures.value c.deref-in-Associate-3.ensures.value in
    let w = associate_weight (statement_view c.args.statement.now) c.in-Associate.field-0 (map association_view c.deref-in-Associate.result.now) (block_of (map statement_view c.deref-in-Associate-3.result.now)) v in
    let n = associate_count (statement_view c.args.statement.now) c.in-Associate.field-0 (map association_view c.deref-in-Associate.result.now) (block_of (map statement_view c.deref-in-Associate-3.result.now)) v in
    let i = c.in_ok-outside-in-Associate.ensures.inside (map association_view c.deref-in-Associate.result.now) (c.deref-in-Associate-2.ensures.value ∙ c.in_ok-names-in-Associate.ensures.names) in (
      omega (arith, w, c.decreases),
      (
        inside_settled (site_of c.args.site.now) (site_of c.enter.new.site) c.args.next (map association_view c.deref-in-Associate.result.now) i c.requires.settled,
        omega (arith, n, c.requires.numbers),
      ),
    )

pub one-returns-in_ok-leave-in-Associate-clause-noted : goal.one-returns-in_ok-leave-in-Associate-clause-noted
one-returns-in_ok-leave-in-Associate-clause-noted t c =
    let v = associate_is c.args.statement.now c.in-Associate.field-0 c.in-Associate.list c.in-Associate.body c.deref-in-Associate.result.now c.deref-in-Associate-3.result.now
    c.in-Associate.is c.deref-in-Associate.ensures.value c.deref-in-Associate-3.ensures.value in
    let i = c.in_ok-outside-in-Associate.ensures.inside (map association_view c.deref-in-Associate.result.now) (c.deref-in-Associate-2.ensures.value ∙ c.in_ok-names-in-Associate.ensures.names) in
    associate_noted (site_of c.args.site.now) c.args.next (statement_view c.args.statement.now) (site_of c.enter.new.site) c.in-Associate.field-0 (map association_view c.deref-in-Associate.result.now)
    (block_of (map statement_view c.deref-in-Associate-3.result.now)) c.args.first.now c.selectors.new.first c.block-in-Associate.new.first v i c.in_ok-names-in-Associate.ensures.noted c.in_ok-behind-in-Associate.ensures.noted

pub one-returns-in_ok-act-in-LogicalIf-clause-noted : goal.one-returns-in_ok-act-in-LogicalIf-clause-noted
one-returns-in_ok-act-in-LogicalIf-clause-noted t c =
    logical_noted (site_of c.args.site.now) c.args.next (statement_view c.args.statement.now) c.in-LogicalIf.field-0 (expression_view c.in-LogicalIf.e) c.in-LogicalIf.place (action_view c.in-LogicalIf.action)
    c.args.first.now c.condition.new.first c.act-in-LogicalIf.new.first
    (logical_is c.args.statement.now c.in-LogicalIf.field-0 c.in-LogicalIf.e c.in-LogicalIf.place c.in-LogicalIf.action c.in-LogicalIf.is)
    c.in_ok-condition-in-LogicalIf.ensures.noted c.in_ok-act-in-LogicalIf.ensures.noted

pub one-returns-in_ok-select-in-Select-clause-noted : goal.one-returns-in_ok-select-in-Select-clause-noted
one-returns-in_ok-select-in-Select-clause-noted t c =
    let v = select_in c.args.statement.now c.in-Select.field-0 c.in-Select.e c.in-Select.list c.deref-in-Select.result.now c.in-Select.is c.deref-in-Select.ensures.value in
    on_ok_weaker c.cases.result
    (λ e. select_noted (site_of c.args.site.now) c.args.next (statement_view c.args.statement.now) c.in-Select.field-0 (expression_view c.in-Select.e) (cases_view c.deref-in-Select.result.now)
    c.args.first.now c.select.new.first c.cases.new.first v c.in_ok-select-in-Select.ensures.noted (e ∙ ap (λ x. noted c.select.new.first (case_breaks (site_of c.args.site.now) c.args.next (cases_in x))) v))
    c.cases.ensures.noted

pub branches-returns-in-Action : goal.branches-returns-in-Action
branches-returns-in-Action t c = record {
  noted = no_branches_noted (site_of c.args.site.now) c.args.next (statement_view c.args.statement.now) _ c.args.first.now (action_is c.args.statement.now c.in-Action.field-0 c.in-Action.field-1 c.in-Action.is) refl;
  next = no_branches_next c.args.next (statement_view c.args.statement.now) _ (action_is c.args.statement.now c.in-Action.field-0 c.in-Action.field-1 c.in-Action.is) refl;
  site = refl;
  room = refl;
}

pub branches-returns-in-LogicalIf : goal.branches-returns-in-LogicalIf
branches-returns-in-LogicalIf t c = record {
  noted = no_branches_noted (site_of c.args.site.now) c.args.next (statement_view c.args.statement.now) _ c.args.first.now (logical_is c.args.statement.now c.in-LogicalIf.field-0 c.in-LogicalIf.field-1 c.in-LogicalIf.field-2 c.in-LogicalIf.field-3 c.in-LogicalIf.is) refl;
  next = no_branches_next c.args.next (statement_view c.args.statement.now) _ (logical_is c.args.statement.now c.in-LogicalIf.field-0 c.in-LogicalIf.field-1 c.in-LogicalIf.field-2 c.in-LogicalIf.field-3 c.in-LogicalIf.is) refl;
  site = refl;
  room = refl;
}

pub branches-returns-in-Select : goal.branches-returns-in-Select
branches-returns-in-Select t c = record {
  noted = no_branches_noted (site_of c.args.site.now) c.args.next (statement_view c.args.statement.now) _ c.args.first.now (select_is c.args.statement.now c.in-Select.field-0 c.in-Select.field-1 c.in-Select.field-2 c.in-Select.is) refl;
  next = no_branches_next c.args.next (statement_view c.args.statement.now) _ (select_is c.args.statement.now c.in-Select.field-0 c.in-Select.field-1 c.in-Select.field-2 c.in-Select.is) refl;
  site = refl;
  room = refl;
}

pub branches-returns-in-Do : goal.branches-returns-in-Do
branches-returns-in-Do t c = record {
  noted = no_branches_noted (site_of c.args.site.now) c.args.next (statement_view c.args.statement.now) _ c.args.first.now (do_is c.args.statement.now c.in-Do.field-0 c.in-Do.field-1 c.in-Do.field-2 c.in-Do.field-2.items c.in-Do.is refl) refl;
  next = no_branches_next c.args.next (statement_view c.args.statement.now) _ (do_is c.args.statement.now c.in-Do.field-0 c.in-Do.field-1 c.in-Do.field-2 c.in-Do.field-2.items c.in-Do.is refl) refl;
  site = refl;
  room = refl;
}

pub branches-returns-in-Associate : goal.branches-returns-in-Associate
branches-returns-in-Associate t c = record {
  noted = no_branches_noted (site_of c.args.site.now) c.args.next (statement_view c.args.statement.now) _ c.args.first.now (associate_is c.args.statement.now c.in-Associate.field-0 c.in-Associate.field-1 c.in-Associate.field-2 c.in-Associate.field-1.items c.in-Associate.field-2.items c.in-Associate.is refl refl) refl;
  next = no_branches_next c.args.next (statement_view c.args.statement.now) _ (associate_is c.args.statement.now c.in-Associate.field-0 c.in-Associate.field-1 c.in-Associate.field-2 c.in-Associate.field-1.items c.in-Associate.field-2.items c.in-Associate.is refl refl) refl;
  site = refl;
  room = refl;
}

pub cases-returns-in-Action : goal.cases-returns-in-Action
cases-returns-in-Action t c = record {
  noted = no_cases_noted (site_of c.args.site.now) c.args.next (statement_view c.args.statement.now) _ c.args.first.now (action_is c.args.statement.now c.in-Action.field-0 c.in-Action.field-1 c.in-Action.is) refl;
  next = no_cases_next c.args.next (statement_view c.args.statement.now) _ (action_is c.args.statement.now c.in-Action.field-0 c.in-Action.field-1 c.in-Action.is) refl;
  site = refl;
  room = refl;
}

pub cases-returns-in-LogicalIf : goal.cases-returns-in-LogicalIf
cases-returns-in-LogicalIf t c = record {
  noted = no_cases_noted (site_of c.args.site.now) c.args.next (statement_view c.args.statement.now) _ c.args.first.now (logical_is c.args.statement.now c.in-LogicalIf.field-0 c.in-LogicalIf.field-1 c.in-LogicalIf.field-2 c.in-LogicalIf.field-3 c.in-LogicalIf.is) refl;
  next = no_cases_next c.args.next (statement_view c.args.statement.now) _ (logical_is c.args.statement.now c.in-LogicalIf.field-0 c.in-LogicalIf.field-1 c.in-LogicalIf.field-2 c.in-LogicalIf.field-3 c.in-LogicalIf.is) refl;
  site = refl;
  room = refl;
}

pub cases-returns-in-If : goal.cases-returns-in-If
cases-returns-in-If t c = record {
  noted = no_cases_noted (site_of c.args.site.now) c.args.next (statement_view c.args.statement.now) _ c.args.first.now (if_is c.args.statement.now c.in-If.field-0 c.in-If.field-1 c.in-If.is) refl;
  next = no_cases_next c.args.next (statement_view c.args.statement.now) _ (if_is c.args.statement.now c.in-If.field-0 c.in-If.field-1 c.in-If.is) refl;
  site = refl;
  room = refl;
}

pub cases-returns-in-Do : goal.cases-returns-in-Do
cases-returns-in-Do t c = record {
  noted = no_cases_noted (site_of c.args.site.now) c.args.next (statement_view c.args.statement.now) _ c.args.first.now (do_is c.args.statement.now c.in-Do.field-0 c.in-Do.field-1 c.in-Do.field-2 c.in-Do.field-2.items c.in-Do.is refl) refl;
  next = no_cases_next c.args.next (statement_view c.args.statement.now) _ (do_is c.args.statement.now c.in-Do.field-0 c.in-Do.field-1 c.in-Do.field-2 c.in-Do.field-2.items c.in-Do.is refl) refl;
  site = refl;
  room = refl;
}

pub cases-returns-in-Associate : goal.cases-returns-in-Associate
cases-returns-in-Associate t c = record {
  noted = no_cases_noted (site_of c.args.site.now) c.args.next (statement_view c.args.statement.now) _ c.args.first.now (associate_is c.args.statement.now c.in-Associate.field-0 c.in-Associate.field-1 c.in-Associate.field-2 c.in-Associate.field-1.items c.in-Associate.field-2.items c.in-Associate.is refl refl) refl;
  next = no_cases_next c.args.next (statement_view c.args.statement.now) _ (associate_is c.args.statement.now c.in-Associate.field-0 c.in-Associate.field-1 c.in-Associate.field-2 c.in-Associate.field-1.items c.in-Associate.field-2.items c.in-Associate.is refl refl) refl;
  site = refl;
  room = refl;
}
