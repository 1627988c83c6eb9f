use Rattle.std.proofs.Common.{◌≡◌, ◌+◌, ◌*◌, ◌++◌, map, drop}
use Rattle.f3_tree.specs.Statements.{statement_view as tree_of, block_of}
use Rattle.f3_scopes.specs.Blocks.{branches_view, alternative_view, cases_view}
use Rattle.f3_elaboration.specs.Actions.{nothing_done}
use Rattle.f3_elaboration.specs.Statements as e
use Rattle.f3_elaboration.specs.Views.{statement_view}
use Rattle.f3_inside.specs.Standing.{state_of, IsSame}
use Rattle.f3_statement_nodes.specs.Inner.Along.{statements_at, branches_at}
use Rattle.f3_statement_nodes.specs.Inner.Counts.{count_of_block, count_of_branches, count_of_cases}
use Rattle.f3_construct_nodes.specs.Nested.{branch_of, case_of, chosen}
use Rattle.f3_statement_nodes.specs.Inner.Weights.{weight, weight_of_block, weight_of_branches, weight_of_other, weight_of_cases}
use Rattle.f3_statement_nodes.proofs.blocks.+blocks.Given as goal

abbrev pub invariant-block-loop-statement : goal.invariant-block-loop-statement
invariant-block-loop-statement l = record {
  nodes : map statement_view l.found.items ++ statements_at (state_of l.fn.state) l.next (drop l.statement-index l.statements) ≡ statements_at (state_of l.fn.state) l.fn.next l.statements;
  numbers : l.next + count_of_block (block_of (map tree_of (drop l.statement-index l.statements))) ≡ l.fn.next + count_of_block (block_of (map tree_of l.statements));
  same : IsSame l.state l.fn.state;
}

abbrev pub invariant-branches-loop-place : goal.invariant-branches-loop-place
invariant-branches-loop-place l = record {
  nodes : map branch_of l.found.items ++ branches_at (state_of l.fn.state) l.next (drop l.place-index l.list) ≡ branches_at (state_of l.fn.state) l.fn.next l.list;
  numbers : l.next + count_of_branches (branches_view (drop l.place-index l.list)) ≡ l.fn.next + count_of_branches (branches_view l.list);
  same : IsSame l.state l.fn.state;
}

abbrev pub invariant-cases-loop-selector : goal.invariant-cases-loop-selector
invariant-cases-loop-selector l = record {
  nodes : chosen (map case_of l.found.items) (e.cases (state_of l.fn.state) l.next (cases_view (drop l.selector-index l.list)) (statement_view l.otherwise))
      ≡ e.cases (state_of l.fn.state) l.fn.next (cases_view l.list) nothing_done;
  numbers : l.next + count_of_cases (cases_view (drop l.selector-index l.list)) ≡ l.fn.next + count_of_cases (cases_view l.list);
  same : IsSame l.state l.fn.state;
}

abbrev pub decreases-block : goal.decreases-block
decreases-block l = 3 * weight_of_block (block_of (map tree_of l.statements.now))

abbrev pub decreases-one : goal.decreases-one
decreases-one l = 3 * weight (tree_of l.statement.now) + 2

abbrev pub decreases-conditional : goal.decreases-conditional
decreases-conditional l = 3 * (weight_of_branches (branches_view l.list.now) + weight_of_other (alternative_view l.other.now)) + 2

abbrev pub decreases-branches : goal.decreases-branches
decreases-branches l = 3 * weight_of_branches (branches_view l.list.now)

abbrev pub decreases-alternative : goal.decreases-alternative
decreases-alternative l = 3 * weight_of_other (alternative_view l.other.now) + 1

abbrev pub decreases-selection : goal.decreases-selection
decreases-selection l = 3 * weight_of_cases (cases_view l.list.now) + 1

abbrev pub decreases-cases : goal.decreases-cases
decreases-cases l = 3 * weight_of_cases (cases_view l.list.now)

abbrev pub decreases-repeats : goal.decreases-repeats
decreases-repeats l = 3 * weight_of_block (block_of (map tree_of l.body.now)) + 1

abbrev pub decreases-associates : goal.decreases-associates
decreases-associates l = 3 * weight_of_block (block_of (map tree_of l.body.now)) + 1
