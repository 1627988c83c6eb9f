-- What a walk over items makes of each, with the number of the next construct, which goes along.
use Rattle.std.specs.Prelude.{ℕ, ◌+◌, List, [], ◌∷◌}
use Rattle.f3_places.specs.declared.source.Place.{Place}
use Rattle.f3_tree.specs.declared.expression.Expression.{Expression}
use Rattle.f3_tree.specs.declared.statement.Statement.{Statement}
use Rattle.f3_tree.specs.Expressions.{expression_view}
use Rattle.f3_tree.specs.Statements.{statement_view, block_view}
use Rattle.std.specs.Global.{Vec}
use Rattle.f3_elaboration.specs.Nodes as n
use Rattle.f3_elaboration.specs.Nodes.{StatementNode}
use Rattle.f3_elaboration.specs.Context.{Surroundings}
use Rattle.f3_elaboration.specs.Expressions.{expression}
use Rattle.f3_elaboration.specs.Statements.{statement, block}
use Rattle.f3_statement_nodes.specs.Inner.Counts.{count_of, count_of_block}
use Rattle.f3_construct_nodes.specs.Nested.{BranchNode}

abbrev pub along : {X Y : Type 0} → (row : ℕ → X → Y) → (count : X → ℕ) → (next : ℕ) → List X → List Y
along row count next [] = []
along row count next (x ∷ xs) = row next x ∷ along row count (next + count x) xs

-- a statement of a block
abbrev pub statement_at : Surroundings → (next : ℕ) → Statement → StatementNode
statement_at s next x = statement s next (statement_view x)

abbrev pub statement_count : Statement → ℕ
statement_count x = count_of (statement_view x)

abbrev pub statements_at : Surroundings → (next : ℕ) → List Statement → List StatementNode
statements_at s next xs = along (statement_at s) statement_count next xs

-- a branch of an IF construct
abbrev pub branch_at : Surroundings → (next : ℕ) → Place × Expression × Vec Statement → BranchNode
branch_at s next x = record { place = x.0; condition = expression s (expression_view x.1); block = n.block (block s next (block_view x.2)) }

abbrev pub branch_count : Place × Expression × Vec Statement → ℕ
branch_count x = count_of_block (block_view x.2)

abbrev pub branches_at : Surroundings → (next : ℕ) → List (Place × Expression × Vec Statement) → List BranchNode
branches_at s next xs = along (branch_at s) branch_count next xs
