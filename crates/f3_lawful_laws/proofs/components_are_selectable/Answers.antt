use Rattle.f3_lawful_laws.proofs.Parts.{have_types, expressions_stand}
use Rattle.f3_lawful_laws.proofs.components_are_selectable.Goals as goal

pub returns-clause-types : goal.returns-clause-types
returns-clause-types c = have_types

pub returns-clause-stand : goal.returns-clause-stand
returns-clause-stand c = expressions_stand
