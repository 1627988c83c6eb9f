-- The breaks of phases 6 and 7 of blocks: of all statements in them, one after the other, constructs with theirs. An ASSOCIATE
-- construct is a scope of its own: the number of the next one goes along.
use Rattle.std.specs.Prelude.{ℕ, ◌+◌, List, [], ◌++◌, length}
use Rattle.std.specs.List.{flat_map}
use Rattle.f3_places.specs.declared.source.Place.{Place}
use Rattle.f3_rules.specs.declared.breaks.Break.{Break}
use Rattle.f3_tree.specs.Statements.{Act, Controls, AssociationTree, StatementTree, acts, acts_if, branches, selects, repeats, associates}
use Rattle.f3_tree.specs.Statements.{Block, no_statements, statements, Branches, no_branches, branch}
use Rattle.f3_tree.specs.Statements.{Alternative, no_alternative, alternative, Cases, no_cases, case_block}
use Rattle.f3_kinds.specs.Typing.{breaks}
use Rattle.f3_type_rules.specs.Statements.{act_breaks, condition_breaks, control_breaks}
use Rattle.f3_type_rules.specs.Cases.{select_breaks}
use Rattle.f3_type_rules.specs.Definitions.{Site, act_definitions, control_definitions, in_loop}
use Rattle.f3_type_rules.specs.Associates.{constructs_of, constructs_of_branches, constructs_of_block, site_inside}

-- an action at its first token
abbrev pub act_rows : Site → Place → Act → List Break
act_rows site place a = act_breaks site.context a ++ act_definitions site place a

abbrev pub control_rows : Site → Controls → List Break
control_rows site control = control_breaks site.context control ++ control_definitions site control

-- selectors are resolved outside of their construct
abbrev pub selector_rows : Site → List AssociationTree → List Break
selector_rows site xs = flat_map (λ (x : AssociationTree). breaks (site.context) x.selector) xs

abbrev mutual
  pub statement_breaks : Site → (next : ℕ) → StatementTree → List Break
  statement_breaks site next (acts p a) = act_rows site p a
  statement_breaks site next (acts_if p e q a) = condition_breaks site.context e ++ act_rows site q a
  statement_breaks site next (branches bs other) = branch_breaks site next bs ++ other_breaks site (next + length (constructs_of_branches bs)) other
  statement_breaks site next (selects p e cs) = select_breaks site.context e cs ++ case_breaks site next cs
  statement_breaks site next (repeats p control body) = control_rows site control ++ block_breaks (in_loop site control) next body
  statement_breaks site next (associates p xs body) = selector_rows site xs ++ block_breaks (site_inside next xs site) (next + 1) body

  pub block_breaks : Site → (next : ℕ) → Block → List Break
  block_breaks site next no_statements = []
  block_breaks site next (statements s b) = statement_breaks site next s ++ block_breaks site (next + length (constructs_of s)) b

  pub branch_breaks : Site → (next : ℕ) → Branches → List Break
  branch_breaks site next no_branches = []
  branch_breaks site next (branch p e b bs) =
      condition_breaks site.context e ++ (block_breaks site next b ++ branch_breaks site (next + length (constructs_of_block b)) bs)

  pub other_breaks : Site → (next : ℕ) → Alternative → List Break
  other_breaks site next no_alternative = []
  other_breaks site next (alternative b) = block_breaks site next b

  pub case_breaks : Site → (next : ℕ) → Cases → List Break
  case_breaks site next no_cases = []
  case_breaks site next (case_block p vs b cs) = block_breaks site next b ++ case_breaks site (next + length (constructs_of_block b)) cs
