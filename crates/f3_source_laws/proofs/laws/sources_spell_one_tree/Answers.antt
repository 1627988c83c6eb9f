use Rattle.f3_source_laws.proofs.Ones.{trees, no_breaks}
use Rattle.f3_source_laws.proofs.laws.sources_spell_one_tree.Goals as goal

pub returns-clause-one : goal.returns-clause-one
returns-clause-one c = trees

pub returns-clause-no_break : goal.returns-clause-no_break
returns-clause-no_break c = no_breaks
