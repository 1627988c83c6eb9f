use Rattle.std.proofs.Common.{◌≡◌, ◌++◌, map, drop, length}
use Rattle.f3_tree.specs.Statements.{statement_view, block_of}
use Rattle.f3_type_rules.specs.Associates.{constructs_of_block, constructs_of_branches, constructs_of_cases}
use Rattle.f3_scopes.specs.Blocks.{branches_view, branches_in, cases_view, cases_in}
use Rattle.f3_natures.proofs.constructs.+constructs.Given as goal

abbrev pub invariant-add_block-loop-statement : goal.invariant-add_block-loop-statement
invariant-add_block-loop-statement l =
    l.found.items ++ map length (constructs_of_block (block_of (map statement_view (drop l.statement-index l.block))))
    ≡ l.fn.found.items ++ map length (constructs_of_block (block_of (map statement_view l.block)))

abbrev pub invariant-add_branches-loop-body : goal.invariant-add_branches-loop-body
invariant-add_branches-loop-body l =
    l.found.items ++ map length (constructs_of_branches (branches_view (drop l.body-index l.body-items)))
    ≡ l.fn.found.items ++ map length (constructs_of_branches (branches_in (statement_view l.fn.statement)))

abbrev pub invariant-add_cases-loop-body : goal.invariant-add_cases-loop-body
invariant-add_cases-loop-body l =
    l.found.items ++ map length (constructs_of_cases (cases_view (drop l.body-index l.body-items)))
    ≡ l.fn.found.items ++ map length (constructs_of_cases (cases_in (statement_view l.fn.statement)))
