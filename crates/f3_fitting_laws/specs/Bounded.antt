-- Expressions whose literals have at most 64 bits (own rule for ISO/IEC 1539-1:2004, 4.4.1), and CASE values that are such as a source may
-- spell.
use Rattle.std.specs.Prelude.{◌≡◌, ⊤, ℕ, true, Option, None, Some}
use Rattle.f3_tree.specs.declared.expression.IntegerLiteral.{IntegerLiteral}
use Rattle.f3_tree.specs.Expressions.{Tree, integer, truth, text, designator, group, array, signed, negation, comparison, chain, Rest, no_more, more}
use Rattle.f3_tree.specs.Expressions.{Trees, no_trees, trees, Parts, no_parts, parts, Behind, bare, within, Arguments, no_arguments, arguments}
use Rattle.f3_tree.specs.Expressions.{ArgumentTree, value, triplet, Perhaps, absent, present, arguments_of}
use Rattle.f3_tree.specs.Statements.{Act, assign, call, allocate, deallocate, print, Controls, forever, counted, while, AssociationTree}
use Rattle.f3_tree.specs.Statements.{CaseTree, one, from, up_to, range, Selects, values, default}
use Rattle.f3_tree.specs.Statements.{StatementTree, acts, acts_if, branches, selects, repeats, associates, Block, no_statements, statements}
use Rattle.f3_tree.specs.Statements.{Branches, no_branches, branch, Alternative, no_alternative, alternative, Cases, no_cases, case_block}
use Rattle.f3_tree.specs.Tree as Tree
use Rattle.f3_tree.specs.Tree.{ProcedureTree, UnitTree}
use Rattle.f3_kinds.specs.Things.{Context}
use Rattle.f3_kinds.specs.Values.{literal_value}
use Rattle.f3_meaning_whole.specs.Permitted.{Each}
use Rattle.f3_cell_kinds.specs.Effect.{is_word}
use Rattle.f3_elaboration.specs.Declarations.{constant_of}
use Rattle.f3_lawful_laws.specs.Written.{IsWritten}
use Rattle.f3_formed_laws.specs.Levels.{IsLevelled}

abbrev pub IsWord : IntegerLiteral → Type 0
IsWord z = is_word (constant_of (Some (literal_value z))) ≡ true

-- so have the values of named constants
abbrev pub HasWords : Context → Type 0
HasWords c = (e : ℕ) → is_word (constant_of (c.value e)) ≡ true

abbrev mutual
  pub IsBounded : Tree → Type 0
  IsBounded (integer p z) = IsWord z
  IsBounded (truth p b) = ⊤
  IsBounded (text p k) = ⊤
  IsBounded (designator ps) = ArePartsBounded ps
  IsBounded (group p e) = IsBounded e
  IsBounded (array p es) = AreBounded es
  IsBounded (signed p s e) = IsBounded e
  IsBounded (negation p e) = IsBounded e
  IsBounded (comparison e r f) = IsBounded e × IsBounded f
  IsBounded (chain e os) = IsBounded e × IsRestBounded os

  pub IsRestBounded : Rest → Type 0
  IsRestBounded no_more = ⊤
  IsRestBounded (more o e os) = IsBounded e × IsRestBounded os

  pub AreBounded : Trees → Type 0
  AreBounded no_trees = ⊤
  AreBounded (trees e es) = IsBounded e × AreBounded es

  pub ArePartsBounded : Parts → Type 0
  ArePartsBounded no_parts = ⊤
  ArePartsBounded (parts n b ps) = IsBehindBounded b × ArePartsBounded ps

  pub IsBehindBounded : Behind → Type 0
  IsBehindBounded bare = ⊤
  IsBehindBounded (within list) = AreArgumentsBounded list

  pub AreArgumentsBounded : Arguments → Type 0
  AreArgumentsBounded no_arguments = ⊤
  AreArgumentsBounded (arguments a others) = IsArgumentBounded a × AreArgumentsBounded others

  pub IsArgumentBounded : ArgumentTree → Type 0
  IsArgumentBounded (value keyword e) = IsBounded e
  IsArgumentBounded (triplet p first last stride) = IsPerhapsBounded first × IsPerhapsBounded last × IsPerhapsBounded stride

  pub IsPerhapsBounded : Perhaps → Type 0
  IsPerhapsBounded absent = ⊤
  IsPerhapsBounded (present e) = IsBounded e

-- ---- actions and blocks

abbrev pub IsStatBounded : Option Parts → Type 0
IsStatBounded None = ⊤
IsStatBounded (Some v) = ArePartsBounded v

abbrev pub IsActBounded : Act → Type 0
IsActBounded (assign v e) = ArePartsBounded v × IsBounded e
IsActBounded (call n list) = AreArgumentsBounded (arguments_of list)
IsActBounded (allocate vs stat) = Each ArePartsBounded vs × IsStatBounded stat
IsActBounded (deallocate vs stat) = Each ArePartsBounded vs × IsStatBounded stat
IsActBounded (print es) = Each IsBounded es
IsActBounded _ = ⊤

abbrev pub IsStepBounded : Option Tree → Type 0
IsStepBounded None = ⊤
IsStepBounded (Some e) = IsBounded e

abbrev pub IsControlBounded : Controls → Type 0
IsControlBounded forever = ⊤
IsControlBounded (while e) = IsBounded e
IsControlBounded (counted n first last step) = IsBounded first × IsBounded last × IsStepBounded step

-- a value of a CASE
abbrev pub IsValueSpelled : Tree → Type 0
IsValueSpelled e = IsWritten e × IsLevelled e

abbrev pub IsCaseSpelled : CaseTree → Type 0
IsCaseSpelled (one e) = IsValueSpelled e
IsCaseSpelled (from e) = IsValueSpelled e
IsCaseSpelled (up_to p e) = IsValueSpelled e
IsCaseSpelled (range e f) = IsValueSpelled e × IsValueSpelled f

abbrev pub AreValuesSpelled : Selects → Type 0
AreValuesSpelled (values vs) = Each IsCaseSpelled vs
AreValuesSpelled default = ⊤

abbrev mutual
  pub IsStatementBounded : StatementTree → Type 0
  IsStatementBounded (acts p a) = IsActBounded a
  IsStatementBounded (acts_if p e q a) = IsBounded e × IsActBounded a
  IsStatementBounded (branches bs other) = AreBranchesBounded bs × IsOtherBounded other
  IsStatementBounded (selects p e cs) = IsBounded e × AreCasesBounded cs
  IsStatementBounded (repeats p control body) = IsControlBounded control × IsBlockBounded body
  IsStatementBounded (associates p xs body) = Each (λ (x : AssociationTree). IsBounded x.selector) xs × IsBlockBounded body

  pub IsBlockBounded : Block → Type 0
  IsBlockBounded no_statements = ⊤
  IsBlockBounded (statements x b) = IsStatementBounded x × IsBlockBounded b

  pub AreBranchesBounded : Branches → Type 0
  AreBranchesBounded no_branches = ⊤
  AreBranchesBounded (branch p e b bs) = IsBounded e × IsBlockBounded b × AreBranchesBounded bs

  pub IsOtherBounded : Alternative → Type 0
  IsOtherBounded no_alternative = ⊤
  IsOtherBounded (alternative b) = IsBlockBounded b

  pub AreCasesBounded : Cases → Type 0
  AreCasesBounded no_cases = ⊤
  AreCasesBounded (case_block p vs b cs) = AreValuesSpelled vs × IsBlockBounded b × AreCasesBounded cs

abbrev pub IsUnitBounded : UnitTree → Type 0
IsUnitBounded u = IsBlockBounded u.body × Each (λ (p : ProcedureTree). IsBlockBounded p.body) u.procedures

-- so of all bodies of a program
abbrev pub AreBodiesBounded : Tree.Tree → Type 0
AreBodiesBounded t = Each IsUnitBounded t.units
