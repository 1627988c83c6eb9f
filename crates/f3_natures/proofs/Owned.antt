-- The constructs of a block, and their scopes: each scope declares the names of its construct.
use Rattle.std.proofs.Common.{◌≡◌, refl, sym, ap, ◌∙◌, ℕ, ◌+◌, List, ◌∷◌, ◌++◌, map, length}
use Rattle.std.proofs.lemmas.List.{length-map, map-append}
use Rattle.f3_tree.specs.declared.expression.Name.{Name}
use Rattle.f3_tree.specs.Statements.{AssociationTree, StatementTree, acts, acts_if, branches, selects, repeats, associates}
use Rattle.f3_tree.specs.Statements.{Block, no_statements, statements, Branches, no_branches, branch}
use Rattle.f3_tree.specs.Statements.{Alternative, no_alternative, alternative, Cases, no_cases, case_block}
use Rattle.f3_scopes.specs.Outlines.{Own, Scope}
use Rattle.f3_scopes.specs.Scopes.{association_own, construct_name, constructs_in, constructs_in_block, constructs_in_branches, constructs_in_alternative, constructs_in_cases}
use Rattle.f3_type_rules.specs.Associates.{constructs_of, constructs_of_block, constructs_of_branches, constructs_of_other, constructs_of_cases}
use Rattle.f3_natures.specs.Constructs.{ConstructsAreAsMany}

abbrev pub owned : List Scope → List (List Own)
owned ss = map (λ (s : Scope). s.declared) ss

abbrev pub named : List (List AssociationTree) → List (List Own)
named xss = map (λ (xs : List AssociationTree). map association_own xs) xss

joined : (a b : List Scope) (xs ys : List (List AssociationTree)) → owned a ≡ named xs → owned b ≡ named ys → owned (a ++ b) ≡ named (xs ++ ys)
joined a b xs ys e f =
    map-append (λ (s : Scope). s.declared) a b ∙ ap (λ l. l ++ owned b) e ∙ ap (λ l. named xs ++ l) f
    ∙ sym (map-append (λ (zs : List AssociationTree). map association_own zs) xs ys)

mutual
  statement_owned : (h : ℕ) (a : Name) (n : ℕ) (s : StatementTree) → owned (constructs_in h a n s) ≡ named (constructs_of s)
  statement_owned h a n (acts p x) = refl
  statement_owned h a n (acts_if p e q x) = refl
  statement_owned h a n (branches bs other) =
      joined (constructs_in_branches h a n bs) (constructs_in_alternative h a (n + length (constructs_in_branches h a n bs)) other) (constructs_of_branches bs) (constructs_of_other other)
      (branches_owned h a n bs) (other_owned h a (n + length (constructs_in_branches h a n bs)) other)
  statement_owned h a n (selects p e cs) = cases_owned h a n cs
  statement_owned h a n (repeats p control body) = block_owned h a n body
  statement_owned h a n (associates p xs body) = ap (λ (l : List (List Own)). map association_own xs ∷ l) (block_owned n (construct_name a xs) (n + 1) body)

  pub block_owned : (h : ℕ) (a : Name) (n : ℕ) (b : Block) → owned (constructs_in_block h a n b) ≡ named (constructs_of_block b)
  block_owned h a n no_statements = refl
  block_owned h a n (statements s b) =
      joined (constructs_in h a n s) (constructs_in_block h a (n + length (constructs_in h a n s)) b) (constructs_of s) (constructs_of_block b)
      (statement_owned h a n s) (block_owned h a (n + length (constructs_in h a n s)) b)

  branches_owned : (h : ℕ) (a : Name) (n : ℕ) (bs : Branches) → owned (constructs_in_branches h a n bs) ≡ named (constructs_of_branches bs)
  branches_owned h a n no_branches = refl
  branches_owned h a n (branch p e b bs) =
      joined (constructs_in_block h a n b) (constructs_in_branches h a (n + length (constructs_in_block h a n b)) bs) (constructs_of_block b) (constructs_of_branches bs)
      (block_owned h a n b) (branches_owned h a (n + length (constructs_in_block h a n b)) bs)

  other_owned : (h : ℕ) (a : Name) (n : ℕ) (o : Alternative) → owned (constructs_in_alternative h a n o) ≡ named (constructs_of_other o)
  other_owned h a n no_alternative = refl
  other_owned h a n (alternative b) = block_owned h a n b

  cases_owned : (h : ℕ) (a : Name) (n : ℕ) (cs : Cases) → owned (constructs_in_cases h a n cs) ≡ named (constructs_of_cases cs)
  cases_owned h a n no_cases = refl
  cases_owned h a n (case_block p vs b cs) =
      joined (constructs_in_block h a n b) (constructs_in_cases h a (n + length (constructs_in_block h a n b)) cs) (constructs_of_block b) (constructs_of_cases cs)
      (block_owned h a n b) (cases_owned h a (n + length (constructs_in_block h a n b)) cs)

pub as_many : ConstructsAreAsMany
as_many h a n b =
    sym (length-map (constructs_in_block h a n b) (λ (s : Scope). s.declared)) ∙ ap length (block_owned h a n b)
    ∙ length-map (constructs_of_block b) (λ (xs : List AssociationTree). map association_own xs)
