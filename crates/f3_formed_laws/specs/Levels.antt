-- Expressions in which the operators of a chain are of one sort, as those of a level of the grammar are: all take integers, or all
-- logicals (ISO/IEC 1539-1:2004, 7.1).
use Rattle.std.specs.Prelude.{◌≡◌, ⊤, Option, None, Some}
use Rattle.f3_tree.specs.Expressions.{Tree, integer, truth, text, designator, group, array, signed, negation, comparison, chain, Rest, no_more, more}
use Rattle.f3_tree.specs.Expressions.{Trees, no_trees, trees, Parts, no_parts, parts, Behind, bare, within, Arguments, no_arguments, arguments}
use Rattle.f3_tree.specs.Expressions.{ArgumentTree, value, triplet, Perhaps, absent, present, arguments_of}
use Rattle.f3_tree.specs.Statements.{Act, assign, call, allocate, deallocate, print, Controls, forever, counted, while, AssociationTree}
use Rattle.f3_tree.specs.Statements.{StatementTree, acts, acts_if, branches, selects, repeats, associates, Block, no_statements, statements}
use Rattle.f3_tree.specs.Statements.{Branches, no_branches, branch, Alternative, no_alternative, alternative, Cases, no_cases, case_block}
use Rattle.f3_tree.specs.Tree as Tree
use Rattle.f3_tree.specs.Tree.{ProcedureTree, UnitTree}
use Rattle.f3_kinds.specs.declared.types.Wanted.{Wanted}
use Rattle.f3_kinds.specs.Operands.{wanted_by}
use Rattle.f3_kinds.specs.Typing.{level_of}
use Rattle.f3_meaning_whole.specs.Permitted.{Each}

abbrev pub AreOfSort : Wanted → Rest → Type 0
AreOfSort want no_more = ⊤
AreOfSort want (more o e os) = (wanted_by o ≡ want) × AreOfSort want os

abbrev mutual
  pub IsLevelled : Tree → Type 0
  IsLevelled (integer p n) = ⊤
  IsLevelled (truth p b) = ⊤
  IsLevelled (text p k) = ⊤
  IsLevelled (designator ps) = ArePartsLevelled ps
  IsLevelled (group p e) = IsLevelled e
  IsLevelled (array p es) = AreLevelled es
  IsLevelled (signed p s e) = IsLevelled e
  IsLevelled (negation p e) = IsLevelled e
  IsLevelled (comparison e r f) = IsLevelled e × IsLevelled f
  IsLevelled (chain e os) = AreOfSort (level_of os) os × IsLevelled e × IsRestLevelled os

  pub IsRestLevelled : Rest → Type 0
  IsRestLevelled no_more = ⊤
  IsRestLevelled (more o e os) = IsLevelled e × IsRestLevelled os

  pub AreLevelled : Trees → Type 0
  AreLevelled no_trees = ⊤
  AreLevelled (trees e es) = IsLevelled e × AreLevelled es

  pub ArePartsLevelled : Parts → Type 0
  ArePartsLevelled no_parts = ⊤
  ArePartsLevelled (parts n b ps) = IsBehindLevelled b × ArePartsLevelled ps

  pub IsBehindLevelled : Behind → Type 0
  IsBehindLevelled bare = ⊤
  IsBehindLevelled (within list) = AreArgumentsLevelled list

  pub AreArgumentsLevelled : Arguments → Type 0
  AreArgumentsLevelled no_arguments = ⊤
  AreArgumentsLevelled (arguments a others) = IsArgumentLevelled a × AreArgumentsLevelled others

  pub IsArgumentLevelled : ArgumentTree → Type 0
  IsArgumentLevelled (value keyword e) = IsLevelled e
  IsArgumentLevelled (triplet p first last stride) = IsPerhapsLevelled first × IsPerhapsLevelled last × IsPerhapsLevelled stride

  pub IsPerhapsLevelled : Perhaps → Type 0
  IsPerhapsLevelled absent = ⊤
  IsPerhapsLevelled (present e) = IsLevelled e

-- ---- actions and blocks

abbrev pub IsStatLevelled : Option Parts → Type 0
IsStatLevelled None = ⊤
IsStatLevelled (Some v) = ArePartsLevelled v

abbrev pub IsActLevelled : Act → Type 0
IsActLevelled (assign v e) = ArePartsLevelled v × IsLevelled e
IsActLevelled (call n list) = AreArgumentsLevelled (arguments_of list)
IsActLevelled (allocate vs stat) = Each ArePartsLevelled vs × IsStatLevelled stat
IsActLevelled (deallocate vs stat) = Each ArePartsLevelled vs × IsStatLevelled stat
IsActLevelled (print es) = Each IsLevelled es
IsActLevelled _ = ⊤

abbrev pub IsStepLevelled : Option Tree → Type 0
IsStepLevelled None = ⊤
IsStepLevelled (Some e) = IsLevelled e

abbrev pub IsControlLevelled : Controls → Type 0
IsControlLevelled forever = ⊤
IsControlLevelled (while e) = IsLevelled e
IsControlLevelled (counted n first last step) = IsLevelled first × IsLevelled last × IsStepLevelled step

abbrev mutual
  pub IsStatementLevelled : StatementTree → Type 0
  IsStatementLevelled (acts p a) = IsActLevelled a
  IsStatementLevelled (acts_if p e q a) = IsLevelled e × IsActLevelled a
  IsStatementLevelled (branches bs other) = AreBranchesLevelled bs × IsOtherLevelled other
  IsStatementLevelled (selects p e cs) = IsLevelled e × AreCasesLevelled cs
  IsStatementLevelled (repeats p control body) = IsControlLevelled control × IsBlockLevelled body
  IsStatementLevelled (associates p xs body) = Each (λ (x : AssociationTree). IsLevelled x.selector) xs × IsBlockLevelled body

  pub IsBlockLevelled : Block → Type 0
  IsBlockLevelled no_statements = ⊤
  IsBlockLevelled (statements x b) = IsStatementLevelled x × IsBlockLevelled b

  pub AreBranchesLevelled : Branches → Type 0
  AreBranchesLevelled no_branches = ⊤
  AreBranchesLevelled (branch p e b bs) = IsLevelled e × IsBlockLevelled b × AreBranchesLevelled bs

  pub IsOtherLevelled : Alternative → Type 0
  IsOtherLevelled no_alternative = ⊤
  IsOtherLevelled (alternative b) = IsBlockLevelled b

  pub AreCasesLevelled : Cases → Type 0
  AreCasesLevelled no_cases = ⊤
  AreCasesLevelled (case_block p vs b cs) = IsBlockLevelled b × AreCasesLevelled cs

abbrev pub IsUnitLevelled : UnitTree → Type 0
IsUnitLevelled u = IsBlockLevelled u.body × Each (λ (p : ProcedureTree). IsBlockLevelled p.body) u.procedures

-- so of all bodies of a program
abbrev pub AreBodiesLevelled : Tree.Tree → Type 0
AreBodiesLevelled t = Each IsUnitLevelled t.units
