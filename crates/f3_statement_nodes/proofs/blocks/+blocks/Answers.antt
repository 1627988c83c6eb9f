use Rattle.std.proofs.Common.{◌≡◌, ℕ, ◌+◌, ◌<◌, ◌^◌, suc, true, List, refl, arith, sym, ap, subst, ◌∙◌, map, IfOk}
use Rattle.std.specs.Global.{Vec}
use Rattle.f3_places.specs.declared.source.Place.{Place}
use Rattle.f3_tree.specs.declared.expression.Expression.{Expression}
use Rattle.f3_tree.specs.declared.statement.Selector.{Selector}
use Rattle.f3_tree.specs.declared.statement.Statement.{Statement}
use Rattle.f3_tree.specs.Expressions.{expression_view}
use Rattle.f3_tree.specs.Statements as tree
use Rattle.f3_tree.specs.Statements.{StatementTree, action_view, association_view, block_of, block_view, control_view}
use Rattle.f3_scopes.specs.Blocks.{branches_view, alternative_view, cases_view}
use Rattle.f3_program.specs.declared.statement.Statement as program
use Rattle.f3_elaboration.specs.Actions.{action, nothing_done}
use Rattle.f3_elaboration.specs.Context.{Surroundings}
use Rattle.f3_elaboration.specs.Expressions.{expression}
use Rattle.f3_elaboration.specs.Nodes as n
use Rattle.f3_elaboration.specs.Statements as e
use Rattle.f3_elaboration.specs.Views.{statement_view, statements_of}
use Rattle.f3_inside.specs.Standing.{state_of}
use Rattle.f3_statement_nodes.specs.Inner.Along.{statement_at, statement_count, branch_at, branch_count, branches_at}
use Rattle.f3_statement_nodes.specs.Inner.Counts.{count_of, count_of_block, count_of_branches, count_of_other, count_of_cases}
use Rattle.f3_construct_nodes.specs.Nested.{branch_of, branched, case_of, chosen}
use Rattle.f3_statement_nodes.specs.Inner.Weights.{weight, weight_of_block, weight_of_branches, weight_of_other, weight_of_cases}
use Rattle.f3_statement_nodes.proofs.Arms.{action_is, logical_is, if_is, select_is, do_is, associate_is, held, else_is, branches_count, if_weight, select_weight, do_weight, associate_weight}
use Rattle.f3_statement_nodes.proofs.Arms.{statements_sum, branches_sum, cases_sum, block_made, branches_made, body_is, branch_is, case_walked}
use Rattle.f3_inside.proofs.Entered.{left_same, room_left}
use Rattle.f3_inside.proofs.Same.{same, same_state, same_settled, same_trans}
use Rattle.f3_statement_nodes.proofs.Walk.{pushed, pushed_all, numbered, within, ended, lighter}
use Rattle.f3_statement_nodes.proofs.blocks.+blocks.Goals as goal

abbrev counted : List Statement → ℕ
counted xs = count_of_block (block_of (map tree.statement_view xs))

abbrev counted_branches : List (Place × Expression × Vec Statement) → ℕ
counted_branches xs = count_of_branches (branches_view xs)

abbrev counted_cases : List (Place × Selector × Vec Statement) → ℕ
counted_cases xs = count_of_cases (cases_view xs)

abbrev case_count : Place × Selector × Vec Statement → ℕ
case_count x = count_of_block (block_view x.2)

-- ---- blocks

pub block-one-requires : goal.block-one-requires
block-one-requires t c =
    let h = lighter (λ (s : Statement). weight (tree.statement_view s)) (λ (xs : List Statement). weight_of_block (block_of (map tree.statement_view xs))) (λ x xs. refl)
    c.args.statements.now c.loop-statement.statement-index c.statement-item.result c.loop-statement-test.true c.statement-item.is in (
      omega (arith, h, c.decreases),
      (
        same_settled c.loop-statement.state c.args.state.now c.loop-statement.invariant.same c.requires.settled,
        within statement_count counted statements_sum c.args.statements.now c.loop-statement.statement-index c.statement-item.result c.loop-statement.next (c.args.next + counted c.args.statements.now)
            c.loop-statement-test.true c.statement-item.is c.loop-statement.invariant.numbers c.requires.numbers,
      ),
    )

pub block-loop-statement-preserved : goal.block-loop-statement-preserved
block-loop-statement-preserved t c = record {
  nodes = pushed (statement_at (state_of c.args.state.now)) statement_count statement_view c.args.statements.now c.loop-statement.statement-index c.statement-item.result
      c.loop-statement.next c.in_ok-node.behind c.loop-statement.found.items c.push.new.self.items c.in_ok-node.node _ c.loop-statement-test.true c.statement-item.is c.in_ok-push.ensures.items
      (c.in_ok-node.ensures.node
      ∙ ap (λ (s : Surroundings). e.statement s c.loop-statement.next (tree.statement_view c.statement-item.result)) (same_state c.loop-statement.state c.args.state.now c.loop-statement.invariant.same))
      c.in_ok-node.ensures.next c.loop-statement.invariant.nodes;
  numbers = numbered statement_count counted statements_sum c.args.statements.now c.loop-statement.statement-index c.statement-item.result c.loop-statement.next c.in_ok-node.behind
      (c.args.next + counted c.args.statements.now) c.loop-statement-test.true c.statement-item.is c.in_ok-node.ensures.next c.loop-statement.invariant.numbers;
  same = same_trans c.one.new.state c.loop-statement.state c.args.state.now c.in_ok-node.ensures.same c.loop-statement.invariant.same;
}

pub block-returns-clause-nodes : goal.block-returns-clause-nodes
block-returns-clause-nodes t c =
    ap statements_of (pushed_all (statement_at (state_of c.args.state.now)) statement_count statement_view c.args.statements.now c.loop-statement.statement-index c.loop-statement.next
    c.loop-statement.found.items _ c.loop-statement-test.false c.loop-statement.invariant.nodes)
    ∙ block_made (state_of c.args.state.now) c.args.next c.args.statements.now

pub block-returns-clause-next : goal.block-returns-clause-next
block-returns-clause-next t c =
    ended counted c.args.statements.now c.loop-statement.statement-index c.loop-statement.next (c.args.next + counted c.args.statements.now) c.loop-statement-test.false refl c.loop-statement.invariant.numbers

-- ---- statements

pub one-conditional-requires : goal.one-conditional-requires
one-conditional-requires t c =
    let v = if_is c.args.statement.now c.in-If.list c.in-If.other c.deref.result.now c.in-If.is c.deref.ensures.value in
    let w = if_weight (tree.statement_view c.args.statement.now) (branches_view c.deref.result.now) (alternative_view c.in-If.other) v in
    (omega (arith, w, c.decreases), (c.requires.settled, subst (λ (x : StatementTree). c.args.next + count_of x < 2 ^ 64) v c.requires.numbers))

pub one-selection-requires : goal.one-selection-requires
one-selection-requires t c =
    let v = select_is c.args.statement.now c.in-Select.place c.in-Select.e c.in-Select.list c.deref-in-Select.result.now c.in-Select.is c.deref-in-Select.ensures.value in
    let w = select_weight (tree.statement_view c.args.statement.now) c.in-Select.place (expression_view c.in-Select.e) (cases_view c.deref-in-Select.result.now) v in
    (omega (arith, w, c.decreases), (c.requires.settled, subst (λ (x : StatementTree). c.args.next + count_of x < 2 ^ 64) v c.requires.numbers))

pub one-repeats-requires : goal.one-repeats-requires
one-repeats-requires t c =
    let v = do_is c.args.statement.now c.in-Do.place c.in-Do.control c.in-Do.body c.deref-in-Do.result.now c.in-Do.is c.deref-in-Do.ensures.value in
    let w = do_weight (tree.statement_view c.args.statement.now) c.in-Do.place (control_view c.in-Do.control) (block_of (map tree.statement_view c.deref-in-Do.result.now)) v in
    (omega (arith, w, c.decreases), (c.requires.settled, subst (λ (x : StatementTree). c.args.next + count_of x < 2 ^ 64) v c.requires.numbers))

pub one-associates-requires : goal.one-associates-requires
one-associates-requires t c =
    let v = associate_is c.args.statement.now c.in-Associate.place c.in-Associate.list c.in-Associate.body c.deref-in-Associate.result.now c.deref-in-Associate-2.result.now
    c.in-Associate.is c.deref-in-Associate.ensures.value c.deref-in-Associate-2.ensures.value in
    let w = associate_weight (tree.statement_view c.args.statement.now) c.in-Associate.place (map association_view c.deref-in-Associate.result.now)
    (block_of (map tree.statement_view c.deref-in-Associate-2.result.now)) v in
    (omega (arith, w, c.decreases), (c.requires.settled, subst (λ (x : StatementTree). c.args.next + count_of x < 2 ^ 64) v c.requires.numbers))

pub one-returns-in-If : goal.one-returns-in-If
one-returns-in-If t c =
    let v = if_is c.args.statement.now c.in-If.list c.in-If.other c.deref.result.now c.in-If.is c.deref.ensures.value in
    record {
      node = subst (λ (x : StatementTree). IfOk c.conditional.result (λ (r : program.Statement × ℕ). statement_view r.0 ≡ e.statement (state_of c.args.state.now) c.args.next x)) (sym v) c.conditional.ensures.node;
      next = subst (λ (x : StatementTree). IfOk c.conditional.result (λ (r : program.Statement × ℕ). r.1 ≡ c.args.next + count_of x)) (sym v) c.conditional.ensures.next;
      same = c.conditional.ensures.same;
    }

pub one-returns-in-Select : goal.one-returns-in-Select
one-returns-in-Select t c =
    let v = select_is c.args.statement.now c.in-Select.place c.in-Select.e c.in-Select.list c.deref-in-Select.result.now c.in-Select.is c.deref-in-Select.ensures.value in
    record {
      node = subst (λ (x : StatementTree). IfOk c.selection.result (λ (r : program.Statement × ℕ). statement_view r.0 ≡ e.statement (state_of c.args.state.now) c.args.next x)) (sym v) c.selection.ensures.node;
      next = subst (λ (x : StatementTree). IfOk c.selection.result (λ (r : program.Statement × ℕ). r.1 ≡ c.args.next + count_of x)) (sym v) c.selection.ensures.next;
      same = c.selection.ensures.same;
    }

pub one-returns-in-Do : goal.one-returns-in-Do
one-returns-in-Do t c =
    let v = do_is c.args.statement.now c.in-Do.place c.in-Do.control c.in-Do.body c.deref-in-Do.result.now c.in-Do.is c.deref-in-Do.ensures.value in
    record {
      node = subst (λ (x : StatementTree). IfOk c.repeats.result (λ (r : program.Statement × ℕ). statement_view r.0 ≡ e.statement (state_of c.args.state.now) c.args.next x)) (sym v) c.repeats.ensures.node;
      next = subst (λ (x : StatementTree). IfOk c.repeats.result (λ (r : program.Statement × ℕ). r.1 ≡ c.args.next + count_of x)) (sym v) c.repeats.ensures.next;
      same = c.repeats.ensures.same;
    }

pub one-returns-in-Associate : goal.one-returns-in-Associate
one-returns-in-Associate t c =
    let v = associate_is c.args.statement.now c.in-Associate.place c.in-Associate.list c.in-Associate.body c.deref-in-Associate.result.now c.deref-in-Associate-2.result.now
    c.in-Associate.is c.deref-in-Associate.ensures.value c.deref-in-Associate-2.ensures.value in
    record {
      node = subst (λ (x : StatementTree). IfOk c.associates.result (λ (r : program.Statement × ℕ). statement_view r.0 ≡ e.statement (state_of c.args.state.now) c.args.next x)) (sym v) c.associates.ensures.node;
      next = subst (λ (x : StatementTree). IfOk c.associates.result (λ (r : program.Statement × ℕ). r.1 ≡ c.args.next + count_of x)) (sym v) c.associates.ensures.next;
      same = c.associates.ensures.same;
    }

pub one-returns-in_ok-node-in-Action : goal.one-returns-in_ok-node-in-Action
one-returns-in_ok-node-in-Action t c =
    let v = action_is c.args.statement.now c.in-Action.place c.in-Action.act c.in-Action.is in
    let k : count_of (tree.statement_view c.args.statement.now) ≡ 0 = ap count_of v in
    record {
      node = c.in_ok-node-in-Action.ensures
          ∙ ap (λ (s : Surroundings). n.at c.in-Action.place true (action s (action_view c.in-Action.act))) c.surroundings.ensures
          ∙ ap (e.statement (state_of c.args.state.now) c.args.next) (sym v);
      next = omega (arith, k);
      same = same c.args.state.now;
    }

pub one-returns-in_ok-node-in-LogicalIf : goal.one-returns-in_ok-node-in-LogicalIf
one-returns-in_ok-node-in-LogicalIf t c =
    let v = logical_is c.args.statement.now c.in-LogicalIf.place c.in-LogicalIf.e c.in-LogicalIf.field-2 c.in-LogicalIf.act c.in-LogicalIf.is in
    let k : count_of (tree.statement_view c.args.statement.now) ≡ 0 = ap count_of v in
    record {
      node = c.in_ok-node-in-LogicalIf.ensures
          ∙ ap (λ (s : Surroundings). n.at c.in-LogicalIf.place true (n.branch (expression s (expression_view c.in-LogicalIf.e)) (action s (action_view c.in-LogicalIf.act)) nothing_done)) c.surroundings-in-LogicalIf.ensures
          ∙ ap (e.statement (state_of c.args.state.now) c.args.next) (sym v);
      next = omega (arith, k);
      same = same c.args.state.now;
    }

-- ---- IF constructs

pub conditional-branches-requires : goal.conditional-branches-requires
conditional-branches-requires t c =
    let k = branches_count (branches_view c.args.list.now) (alternative_view c.args.other.now) in
    (omega (arith, c.decreases), (c.requires.settled, omega (arith, k, c.requires.numbers)))

pub conditional-alternative-requires : goal.conditional-alternative-requires
conditional-alternative-requires t c =
    let k = branches_count (branches_view c.args.list.now) (alternative_view c.args.other.now) in
    let m = c.in_ok-found.ensures.next in
    (omega (arith, c.decreases), (same_settled c.branches.new.state c.args.state.now c.in_ok-found.ensures.same c.requires.settled, omega (arith, k, m, c.requires.numbers)))

pub conditional-returns-clause-node : goal.conditional-returns-clause-node
conditional-returns-clause-node t c =
    let s = state_of c.args.state.now in
    let other = alternative_view c.args.other.now in
    c.in_ok-node.ensures
    ∙ ap (λ bs. branched true bs (statement_view c.in_ok-otherwise.otherwise)) c.in_ok-found.ensures.nodes
    ∙ ap (branched true (branches_at s c.args.next c.args.list.now))
    (c.in_ok-otherwise.ensures.node
    ∙ ap (λ (y : Surroundings). e.alternative y c.in_ok-found.behind other) (same_state c.branches.new.state c.args.state.now c.in_ok-found.ensures.same)
    ∙ ap (λ k. e.alternative s k other) c.in_ok-found.ensures.next)
    ∙ branches_made s c.args.next true c.args.list.now (e.alternative s (c.args.next + counted_branches c.args.list.now) other)

pub branches-block-requires : goal.branches-block-requires
branches-block-requires t c =
    let h = lighter (λ (x : Place × Expression × Vec Statement). weight_of_block (block_view x.2)) (λ (xs : List (Place × Expression × Vec Statement)). weight_of_branches (branches_view xs)) (λ x xs. refl)
    c.args.list.now c.loop-place.place-index c.loop-place-item.result c.loop-place-test.true c.loop-place-item.is in
    let b = held c.loop-place-item.result.2 c.deref.result.now c.deref.ensures.value in
    let w = ap weight_of_block b in
    let k = ap count_of_block b in
    let m = within branch_count counted_branches branches_sum c.args.list.now c.loop-place.place-index c.loop-place-item.result c.loop-place.next (c.args.next + counted_branches c.args.list.now)
    c.loop-place-test.true c.loop-place-item.is c.loop-place.invariant.numbers c.requires.numbers in
    (omega (arith, h, w, c.decreases), (same_settled c.loop-place.state c.args.state.now c.loop-place.invariant.same c.requires.settled, omega (arith, m, k)))

pub branches-loop-place-preserved : goal.branches-loop-place-preserved
branches-loop-place-preserved t c =
    let s = state_of c.args.state.now in
    let x = c.loop-place-item.result in
    let b = held x.2 c.deref.result.now c.deref.ensures.value in
    let m = c.in-Ok.ensures.next ∙ ap (λ y. c.loop-place.next + count_of_block y) b in
    let known = same_state c.loop-place.state c.args.state.now c.loop-place.invariant.same in
    record {
      nodes = pushed (branch_at s) branch_count branch_of c.args.list.now c.loop-place.place-index x c.loop-place.next c.in-Ok.behind c.loop-place.found.items c.push.new.self.items
          (record { place = x.0; condition = c.in_ok-condition.condition; block = c.many.result }) _ c.loop-place-test.true c.loop-place-item.is c.in_ok-push-in-Ok.ensures.items
          (branch_is x.0 _ _ _ _ (c.in_ok-condition.ensures ∙ ap (λ (y : Surroundings). expression y (expression_view x.1)) (c.surroundings.ensures ∙ known))
          (body_is s (state_of c.loop-place.state) c.loop-place.next (block_view x.2) (block_of (map tree.statement_view c.deref.result.now)) (statement_view c.many.result) _ c.many.ensures c.in-Ok.ensures.nodes known b))
          m c.loop-place.invariant.nodes;
      numbers = numbered branch_count counted_branches branches_sum c.args.list.now c.loop-place.place-index x c.loop-place.next c.in-Ok.behind
          (c.args.next + counted_branches c.args.list.now) c.loop-place-test.true c.loop-place-item.is m c.loop-place.invariant.numbers;
      same = same_trans c.block.new.state c.loop-place.state c.args.state.now c.in-Ok.ensures.same c.loop-place.invariant.same;
    }

pub branches-returns : goal.branches-returns
branches-returns t c = record {
  nodes = pushed_all (branch_at (state_of c.args.state.now)) branch_count branch_of c.args.list.now c.loop-place.place-index c.loop-place.next c.loop-place.found.items _
      c.loop-place-test.false c.loop-place.invariant.nodes;
  next = ended counted_branches c.args.list.now c.loop-place.place-index c.loop-place.next (c.args.next + counted_branches c.args.list.now) c.loop-place-test.false refl c.loop-place.invariant.numbers;
  same = c.loop-place.invariant.same;
}

pub alternative-block-requires : goal.alternative-block-requires
alternative-block-requires t c =
    let v = else_is c.args.other.now c.in-Some.body c.deref.result.now c.in-Some.is c.deref.ensures.value in
    let w = ap weight_of_other v in
    let k = ap count_of_other v in
    (omega (arith, w, c.decreases), (c.requires.settled, omega (arith, k, c.requires.numbers)))

-- ---- CASE constructs

pub selection-cases-requires : goal.selection-cases-requires
selection-cases-requires t c = (omega (arith, c.decreases), (c.requires.settled, c.requires.numbers))

pub cases-block-requires : goal.cases-block-requires
cases-block-requires t c =
    let h = lighter (λ (x : Place × Selector × Vec Statement). weight_of_block (block_view x.2)) (λ (xs : List (Place × Selector × Vec Statement)). weight_of_cases (cases_view xs)) (λ x xs. refl)
    c.args.list.now c.loop-selector.selector-index c.loop-selector-item.result c.loop-selector-test.true c.loop-selector-item.is in
    let b = held c.loop-selector-item.result.2 c.deref.result.now c.deref.ensures.value in
    let w = ap weight_of_block b in
    let k = ap count_of_block b in
    let m = within case_count counted_cases cases_sum c.args.list.now c.loop-selector.selector-index c.loop-selector-item.result c.loop-selector.next (c.args.next + counted_cases c.args.list.now)
    c.loop-selector-test.true c.loop-selector-item.is c.loop-selector.invariant.numbers c.requires.numbers in
    (omega (arith, h, w, c.decreases), (same_settled c.loop-selector.state c.args.state.now c.loop-selector.invariant.same c.requires.settled, omega (arith, m, k)))

pub cases-loop-selector-init : goal.cases-loop-selector-init
cases-loop-selector-init t c = record {
  nodes = ap (λ v. chosen (map case_of v) (e.cases (state_of c.args.state.now) c.args.next (cases_view c.args.list.now) (statement_view c.nothing_done-otherwise.result))) c.new-found.ensures.items
      ∙ ap (e.cases (state_of c.args.state.now) c.args.next (cases_view c.args.list.now)) c.nothing_done-otherwise.ensures;
  numbers = refl;
  same = same c.args.state.now;
}

pub cases-loop-selector-preserved : goal.cases-loop-selector-preserved
cases-loop-selector-preserved t c =
    let s = state_of c.args.state.now in
    let x = c.loop-selector-item.result in
    let b = held x.2 c.deref.result.now c.deref.ensures.value in
    let m = c.in-Ok.ensures.next ∙ ap (λ y. c.loop-selector.next + count_of_block y) b in
    let known = same_state c.loop-selector.state c.args.state.now c.loop-selector.invariant.same in
    let behind = same_trans c.block.new.state c.loop-selector.state c.args.state.now c.in-Ok.ensures.same c.loop-selector.invariant.same in
    record {
      nodes = case_walked s c.args.list.now c.loop-selector.selector-index x c.loop-selector.next c.in-Ok.behind (map case_of c.loop-selector.found.items) (map case_of c.add_case.new.found.items)
          (state_of c.block.new.state).context (statement_view c.many.result) (statement_view c.loop-selector.otherwise) (statement_view c.in_ok-otherwise-in-Ok.otherwise) _
          c.loop-selector-test.true c.loop-selector-item.is (ap (λ (y : Surroundings). y.context) (same_state c.block.new.state c.args.state.now behind))
          (body_is s (state_of c.loop-selector.state) c.loop-selector.next (block_view x.2) (block_of (map tree.statement_view c.deref.result.now)) (statement_view c.many.result) _ c.many.ensures c.in-Ok.ensures.nodes known b)
          m c.in_ok-otherwise-in-Ok.ensures c.loop-selector.invariant.nodes;
      numbers = numbered case_count counted_cases cases_sum c.args.list.now c.loop-selector.selector-index x c.loop-selector.next c.in-Ok.behind
          (c.args.next + counted_cases c.args.list.now) c.loop-selector-test.true c.loop-selector-item.is m c.loop-selector.invariant.numbers;
      same = behind;
    }

-- ---- DO and ASSOCIATE constructs

pub repeats-block-requires : goal.repeats-block-requires
repeats-block-requires t c = (omega (arith, c.decreases), (c.requires.settled, c.requires.numbers))

pub repeats-returns-clause-node : goal.repeats-returns-clause-node
repeats-returns-clause-node t c =
    let s = state_of c.args.state.now in
    c.in_ok-node.ensures
    ∙ ap (n.at c.args.place true)
    (c.in_ok-inner.ensures
    ∙ ap (λ (y : Surroundings). e.loop y (control_view c.args.control.now) (statement_view c.many.result)) (c.surroundings.ensures ∙ same_state c.block.new.state c.args.state.now c.in_ok-nodes.ensures.same)
    ∙ ap (e.loop s (control_view c.args.control.now)) (c.many.ensures ∙ ap n.block c.in_ok-nodes.ensures.nodes))

pub associates-enter-requires : goal.associates-enter-requires
associates-enter-requires t c = c.requires.settled

pub associates-block-requires : goal.associates-block-requires
associates-block-requires t c =
    let m : c.args.next + suc (counted c.args.body.now) < 2 ^ 64 = c.requires.numbers in
    (omega (arith, c.decreases), (c.in_ok-outside.ensures.settled, omega (arith, m)))

pub associates-leave-requires : goal.associates-leave-requires
associates-leave-requires t c = room_left c.in_ok-outside.outside c.block.new.state c.enter.new.state c.args.state.now c.in_ok-nodes.ensures.same c.in_ok-outside.ensures.leads

pub associates-returns-clause-node : goal.associates-returns-clause-node
associates-returns-clause-node t c =
    let s = state_of c.args.state.now in
    let xs = map association_view c.args.list.now in
    c.in_ok-node.ensures
    ∙ ap (λ ys. n.at c.args.place true (n.associate ys (statement_view c.many.result))) (c.in_ok-selected.ensures ∙ ap (λ (y : Surroundings). map (e.selector y) xs) c.surroundings.ensures)
    ∙ ap (λ y. n.at c.args.place true (n.associate (map (e.selector s) xs) y))
    (c.many.ensures ∙ ap n.block (c.in_ok-nodes.ensures.nodes ∙ ap (λ (y : Surroundings). e.block y (c.args.next + 1) (block_of (map tree.statement_view c.args.body.now))) c.in_ok-outside.ensures.inside))

pub associates-returns-clause-same : goal.associates-returns-clause-same
associates-returns-clause-same t c =
    left_same c.in_ok-outside.outside c.leave.new.state c.block.new.state c.enter.new.state c.args.state.now c.in_ok-leave.ensures c.in_ok-nodes.ensures.same c.in_ok-outside.ensures.leads
