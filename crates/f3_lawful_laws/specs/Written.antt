-- Expressions that a source may spell: each designator has a name, and each array constructor a value (docs/LANGUAGE.md).
use Rattle.std.specs.Prelude.{⊤, Option, None, Some}
use Rattle.f3_tree.specs.Expressions.{Tree, integer, truth, text, designator, group, array, signed, negation, comparison, chain, Rest, no_more, more}
use Rattle.f3_tree.specs.Expressions.{Trees, no_trees, trees, Parts, no_parts, parts, Behind, bare, within, Arguments, no_arguments, arguments}
use Rattle.f3_tree.specs.Expressions.{ArgumentTree, value, triplet, Perhaps, absent, present, arguments_of}
use Rattle.f3_tree.specs.Statements.{Act, assign, call, allocate, deallocate, print}
use Rattle.f3_meaning_whole.specs.Permitted.{Each}

abbrev pub HasName : Parts → Type 0
HasName no_parts = ⊥
HasName (parts n b ps) = ⊤

abbrev pub HasValue : Trees → Type 0
HasValue no_trees = ⊥
HasValue (trees e es) = ⊤

abbrev mutual
  pub IsWritten : Tree → Type 0
  IsWritten (integer p n) = ⊤
  IsWritten (truth p b) = ⊤
  IsWritten (text p k) = ⊤
  IsWritten (designator ps) = HasName ps × ArePartsWritten ps
  IsWritten (group p e) = IsWritten e
  IsWritten (array p es) = HasValue es × AreWritten es
  IsWritten (signed p s e) = IsWritten e
  IsWritten (negation p e) = IsWritten e
  IsWritten (comparison e r f) = IsWritten e × IsWritten f
  IsWritten (chain e os) = IsWritten e × IsRestWritten os

  pub IsRestWritten : Rest → Type 0
  IsRestWritten no_more = ⊤
  IsRestWritten (more o e os) = IsWritten e × IsRestWritten os

  pub AreWritten : Trees → Type 0
  AreWritten no_trees = ⊤
  AreWritten (trees e es) = IsWritten e × AreWritten es

  pub ArePartsWritten : Parts → Type 0
  ArePartsWritten no_parts = ⊤
  ArePartsWritten (parts n b ps) = IsBehindWritten b × ArePartsWritten ps

  pub IsBehindWritten : Behind → Type 0
  IsBehindWritten bare = ⊤
  IsBehindWritten (within list) = AreArgumentsWritten list

  pub AreArgumentsWritten : Arguments → Type 0
  AreArgumentsWritten no_arguments = ⊤
  AreArgumentsWritten (arguments a others) = IsArgumentWritten a × AreArgumentsWritten others

  pub IsArgumentWritten : ArgumentTree → Type 0
  IsArgumentWritten (value keyword e) = IsWritten e
  IsArgumentWritten (triplet p first last stride) = IsPerhapsWritten first × IsPerhapsWritten last × IsPerhapsWritten stride

  pub IsPerhapsWritten : Perhaps → Type 0
  IsPerhapsWritten absent = ⊤
  IsPerhapsWritten (present e) = IsWritten e

-- ---- actions

abbrev pub IsVariableWritten : Parts → Type 0
IsVariableWritten v = HasName v × ArePartsWritten v

abbrev pub IsStatWritten : Option Parts → Type 0
IsStatWritten None = ⊤
IsStatWritten (Some v) = IsVariableWritten v

abbrev pub IsActWritten : Act → Type 0
IsActWritten (assign v e) = IsVariableWritten v × IsWritten e
IsActWritten (call n list) = AreArgumentsWritten (arguments_of list)
IsActWritten (allocate vs stat) = Each IsVariableWritten vs × IsStatWritten stat
IsActWritten (deallocate vs stat) = Each IsVariableWritten vs × IsStatWritten stat
IsActWritten (print es) = Each IsWritten es
IsActWritten _ = ⊤
