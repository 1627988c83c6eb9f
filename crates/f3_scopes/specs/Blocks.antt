-- The parts of constructs in memory, as trees.
use Rattle.std.specs.Prelude.{List, [], ◌∷◌, Option, Some, None}
use Rattle.std.specs.Global.{Vec}
use Rattle.f3_places.specs.declared.source.Place.{Place}
use Rattle.f3_tree.specs.declared.expression.Expression.{Expression}
use Rattle.f3_tree.specs.declared.statement.Selector.{Selector}
use Rattle.f3_tree.specs.declared.statement.Statement.{Statement}
use Rattle.f3_tree.specs.Expressions.{expression_view}
use Rattle.f3_tree.specs.Statements.{StatementTree, branches, selects, Branches, no_branches, branch, Alternative, no_alternative, alternative}
use Rattle.f3_tree.specs.Statements.{Cases, no_cases, case_block, selector_view, block_view}

abbrev pub branches_view : List (Place × Expression × Vec Statement) → Branches
branches_view [] = no_branches
branches_view (b ∷ bs) = branch b.0 (expression_view b.1) (block_view b.2) (branches_view bs)

-- the branches of an IF construct
abbrev pub branches_in : StatementTree → Branches
branches_in (branches bs other) = bs
branches_in _ = no_branches

abbrev pub alternative_view : Option (Vec Statement) → Alternative
alternative_view None = no_alternative
alternative_view (Some v) = alternative (block_view v)

abbrev pub cases_view : List (Place × Selector × Vec Statement) → Cases
cases_view [] = no_cases
cases_view (c ∷ cs) = case_block c.0 (selector_view c.1) (block_view c.2) (cases_view cs)

-- the cases of a CASE construct
abbrev pub cases_in : StatementTree → Cases
cases_in (selects p e cs) = cs
cases_in _ = no_cases
