use Rattle.std.proofs.Common.{◌≡◌, ◌++◌, map, drop, length}
use Rattle.f3_tree.specs.Statements.{statement_view, block_of}
use Rattle.f3_scopes.specs.Outlines.{scope_view}
use Rattle.f3_scopes.specs.Scopes.{constructs_in_block, constructs_in_branches, constructs_in_cases}
use Rattle.f3_scopes.specs.Blocks.{branches_view, branches_in, cases_view, cases_in}
use Rattle.f3_scopes.proofs.constructs.+constructs.Given as goal

abbrev pub invariant-add_block-loop-statement : goal.invariant-add_block-loop-statement
invariant-add_block-loop-statement l =
    map scope_view l.found.items ++ constructs_in_block l.host l.around (length l.found.items) (block_of (map statement_view (drop l.statement-index l.block)))
    ≡ map scope_view l.fn.found.items ++ constructs_in_block l.host l.around (length l.fn.found.items) (block_of (map statement_view l.block))

abbrev pub invariant-add_branches-loop-body : goal.invariant-add_branches-loop-body
invariant-add_branches-loop-body l =
    map scope_view l.found.items ++ constructs_in_branches l.host l.around (length l.found.items) (branches_view (drop l.body-index l.body-items))
    ≡ map scope_view l.fn.found.items ++ constructs_in_branches l.host l.around (length l.fn.found.items) (branches_in (statement_view l.fn.statement))

abbrev pub invariant-add_cases-loop-body : goal.invariant-add_cases-loop-body
invariant-add_cases-loop-body l =
    map scope_view l.found.items ++ constructs_in_cases l.host l.around (length l.found.items) (cases_view (drop l.body-index l.body-items))
    ≡ map scope_view l.fn.found.items ++ constructs_in_cases l.host l.around (length l.fn.found.items) (cases_in (statement_view l.fn.statement))
