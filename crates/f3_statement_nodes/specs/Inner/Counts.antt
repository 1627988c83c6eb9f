-- How many constructs stand in what a construct holds.
use Rattle.std.specs.Prelude.{ℕ, length}
use Rattle.f3_tree.specs.Statements.{StatementTree, Block, Branches, Alternative, Cases}
use Rattle.f3_type_rules.specs.Associates.{constructs_of, constructs_of_block, constructs_of_branches, constructs_of_other, constructs_of_cases}

abbrev pub count_of : StatementTree → ℕ
count_of s = length (constructs_of s)

abbrev pub count_of_block : Block → ℕ
count_of_block b = length (constructs_of_block b)

abbrev pub count_of_branches : Branches → ℕ
count_of_branches bs = length (constructs_of_branches bs)

abbrev pub count_of_other : Alternative → ℕ
count_of_other b = length (constructs_of_other b)

abbrev pub count_of_cases : Cases → ℕ
count_of_cases cs = length (constructs_of_cases cs)
