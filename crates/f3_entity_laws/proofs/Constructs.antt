-- The scopes of the constructs of a block, beside their associations.
use Rattle.std.proofs.Common.{◌≡◌, ℕ, ◌+◌, List, [], ◌∷◌, ◌++◌, length, refl}
use Rattle.std.specs.Prelude.{⊤}
use Rattle.f3_tree.specs.declared.expression.Name.{Name}
use Rattle.f3_tree.specs.Statements.{AssociationTree, StatementTree, acts, acts_if, branches, selects, repeats, associates}
use Rattle.f3_tree.specs.Statements.{Block, no_statements, statements, Branches, no_branches, branch}
use Rattle.f3_tree.specs.Statements.{Alternative, no_alternative, alternative, Cases, no_cases, case_block}
use Rattle.f3_scopes.specs.Outlines.{Scope}
use Rattle.f3_scopes.specs.Scopes.{scope_of_construct, construct_name, constructs_in, constructs_in_block, constructs_in_branches, constructs_in_alternative}
use Rattle.f3_scopes.specs.Scopes.{constructs_in_cases}
use Rattle.f3_type_rules.specs.Associates.{constructs_of, constructs_of_block, constructs_of_branches, constructs_of_other, constructs_of_cases}

abbrev pub ArePairs : List Scope → List (List AssociationTree) → Type 0
ArePairs [] [] = ⊤
ArePairs [] (xs ∷ xss) = ⊥
ArePairs (s ∷ ss) [] = ⊥
ArePairs (s ∷ ss) (xs ∷ xss) = ((host : ℕ) × (around : Name) × (s ≡ scope_of_construct host around xs)) × ArePairs ss xss

joined : (a b : List Scope) (xs ys : List (List AssociationTree)) → ArePairs a xs → ArePairs b ys → ArePairs (a ++ b) (xs ++ ys)
joined [] b [] ys h k = k
joined [] b (x ∷ xs) ys h k = absurd h
joined (s ∷ a) b [] ys h k = absurd h
joined (s ∷ a) b (x ∷ xs) ys h k = (h.0, joined a b xs ys h.1 k)

mutual
  statement_pairs : (h : ℕ) (a : Name) (n : ℕ) (s : StatementTree) → ArePairs (constructs_in h a n s) (constructs_of s)
  statement_pairs h a n (acts p x) = tt
  statement_pairs h a n (acts_if p e q x) = tt
  statement_pairs h a n (branches bs other) =
      joined (constructs_in_branches h a n bs) (constructs_in_alternative h a (n + length (constructs_in_branches h a n bs)) other)
      (constructs_of_branches bs) (constructs_of_other other) (branches_pairs h a n bs)
      (other_pairs h a (n + length (constructs_in_branches h a n bs)) other)
  statement_pairs h a n (selects p e cs) = cases_pairs h a n cs
  statement_pairs h a n (repeats p control body) = block_pairs h a n body
  statement_pairs h a n (associates p xs body) = ((h, a, refl), block_pairs n (construct_name a xs) (n + 1) body)

  pub block_pairs : (h : ℕ) (a : Name) (n : ℕ) (b : Block) → ArePairs (constructs_in_block h a n b) (constructs_of_block b)
  block_pairs h a n no_statements = tt
  block_pairs h a n (statements s b) =
      joined (constructs_in h a n s) (constructs_in_block h a (n + length (constructs_in h a n s)) b) (constructs_of s) (constructs_of_block b)
      (statement_pairs h a n s) (block_pairs h a (n + length (constructs_in h a n s)) b)

  branches_pairs : (h : ℕ) (a : Name) (n : ℕ) (bs : Branches) → ArePairs (constructs_in_branches h a n bs) (constructs_of_branches bs)
  branches_pairs h a n no_branches = tt
  branches_pairs h a n (branch p e b bs) =
      joined (constructs_in_block h a n b) (constructs_in_branches h a (n + length (constructs_in_block h a n b)) bs) (constructs_of_block b)
      (constructs_of_branches bs) (block_pairs h a n b) (branches_pairs h a (n + length (constructs_in_block h a n b)) bs)

  other_pairs : (h : ℕ) (a : Name) (n : ℕ) (o : Alternative) → ArePairs (constructs_in_alternative h a n o) (constructs_of_other o)
  other_pairs h a n no_alternative = tt
  other_pairs h a n (alternative b) = block_pairs h a n b

  cases_pairs : (h : ℕ) (a : Name) (n : ℕ) (cs : Cases) → ArePairs (constructs_in_cases h a n cs) (constructs_of_cases cs)
  cases_pairs h a n no_cases = tt
  cases_pairs h a n (case_block p vs b cs) =
      joined (constructs_in_block h a n b) (constructs_in_cases h a (n + length (constructs_in_block h a n b)) cs) (constructs_of_block b)
      (constructs_of_cases cs) (block_pairs h a n b) (cases_pairs h a (n + length (constructs_in_block h a n b)) cs)
