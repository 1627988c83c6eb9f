-- How much a walk over statements has before it.
use Rattle.std.specs.Prelude.{ℕ, ◌+◌}
use Rattle.f3_tree.specs.Statements.{StatementTree, acts, acts_if, branches, selects, repeats, associates}
use Rattle.f3_tree.specs.Statements.{Block, no_statements, statements, Branches, no_branches, branch}
use Rattle.f3_tree.specs.Statements.{Alternative, no_alternative, alternative, Cases, no_cases, case_block}

abbrev mutual
  pub weight : StatementTree → ℕ
  weight (acts p a) = 0
  weight (acts_if p e q a) = 0
  weight (branches bs other) = weight_of_branches bs + weight_of_other other + 1
  weight (selects p e cs) = weight_of_cases cs + 1
  weight (repeats p control body) = weight_of_block body + 1
  weight (associates p xs body) = weight_of_block body + 1

  pub weight_of_block : Block → ℕ
  weight_of_block no_statements = 0
  weight_of_block (statements s b) = weight s + weight_of_block b + 1

  pub weight_of_branches : Branches → ℕ
  weight_of_branches no_branches = 0
  weight_of_branches (branch p e b bs) = weight_of_block b + weight_of_branches bs + 1

  pub weight_of_other : Alternative → ℕ
  weight_of_other no_alternative = 0
  weight_of_other (alternative b) = weight_of_block b

  pub weight_of_cases : Cases → ℕ
  weight_of_cases no_cases = 0
  weight_of_cases (case_block p vs b cs) = weight_of_block b + weight_of_cases cs + 1
