-- Blocks have as many constructs as they make scopes.
use Rattle.std.proofs.Common.{◌≡◌, refl, ap, ℕ, suc, ◌+◌, List, ◌++◌, length, arith, length-append}
use Rattle.f3_tree.specs.declared.expression.Name.{Name}
use Rattle.f3_tree.specs.Statements.{StatementTree, acts, acts_if, branches, selects, repeats, associates}
use Rattle.f3_tree.specs.Statements.{Block, no_statements, statements, Branches, no_branches, branch}
use Rattle.f3_tree.specs.Statements.{Alternative, no_alternative, alternative, Cases, no_cases, case_block}
use Rattle.f3_scopes.specs.Scopes.{construct_name, constructs_in, constructs_in_block, constructs_in_branches, constructs_in_alternative, constructs_in_cases}
use Rattle.f3_type_rules.specs.Associates.{constructs_of, constructs_of_block, constructs_of_branches, constructs_of_other, constructs_of_cases}

joined : {X Y : Type 0} (a b : List X) (xs ys : List Y) → length a ≡ length xs → length b ≡ length ys → length (a ++ b) ≡ length (xs ++ ys)
joined a b xs ys e f = omega (arith, length-append a b, length-append xs ys)

mutual
  statement_scopes : (h : ℕ) (a : Name) (n : ℕ) (s : StatementTree) → length (constructs_in h a n s) ≡ length (constructs_of s)
  statement_scopes h a n (acts p x) = refl
  statement_scopes h a n (acts_if p e q x) = refl
  statement_scopes h a n (branches bs other) =
      joined (constructs_in_branches h a n bs) (constructs_in_alternative h a (n + length (constructs_in_branches h a n bs)) other)
      (constructs_of_branches bs) (constructs_of_other other) (branches_scopes h a n bs) (other_scopes h a (n + length (constructs_in_branches h a n bs)) other)
  statement_scopes h a n (selects p e cs) = cases_scopes h a n cs
  statement_scopes h a n (repeats p control body) = block_scopes h a n body
  statement_scopes h a n (associates p xs body) = ap suc (block_scopes n (construct_name a xs) (n + 1) body)

  pub block_scopes : (h : ℕ) (a : Name) (n : ℕ) (b : Block) → length (constructs_in_block h a n b) ≡ length (constructs_of_block b)
  block_scopes h a n no_statements = refl
  block_scopes h a n (statements s b) =
      joined (constructs_in h a n s) (constructs_in_block h a (n + length (constructs_in h a n s)) b) (constructs_of s) (constructs_of_block b)
      (statement_scopes h a n s) (block_scopes h a (n + length (constructs_in h a n s)) b)

  branches_scopes : (h : ℕ) (a : Name) (n : ℕ) (bs : Branches) → length (constructs_in_branches h a n bs) ≡ length (constructs_of_branches bs)
  branches_scopes h a n no_branches = refl
  branches_scopes h a n (branch p e b bs) =
      joined (constructs_in_block h a n b) (constructs_in_branches h a (n + length (constructs_in_block h a n b)) bs) (constructs_of_block b)
      (constructs_of_branches bs) (block_scopes h a n b) (branches_scopes h a (n + length (constructs_in_block h a n b)) bs)

  other_scopes : (h : ℕ) (a : Name) (n : ℕ) (o : Alternative) → length (constructs_in_alternative h a n o) ≡ length (constructs_of_other o)
  other_scopes h a n no_alternative = refl
  other_scopes h a n (alternative b) = block_scopes h a n b

  cases_scopes : (h : ℕ) (a : Name) (n : ℕ) (cs : Cases) → length (constructs_in_cases h a n cs) ≡ length (constructs_of_cases cs)
  cases_scopes h a n no_cases = refl
  cases_scopes h a n (case_block p vs b cs) =
      joined (constructs_in_block h a n b) (constructs_in_cases h a (n + length (constructs_in_block h a n b)) cs) (constructs_of_block b)
      (constructs_of_cases cs) (block_scopes h a n b) (cases_scopes h a (n + length (constructs_in_block h a n b)) cs)
