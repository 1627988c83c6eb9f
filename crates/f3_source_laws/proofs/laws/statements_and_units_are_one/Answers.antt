use Rattle.f3_source_laws.proofs.Ones as ones
use Rattle.f3_source_laws.proofs.laws.statements_and_units_are_one.Goals as goal

pub returns-clause-forms : goal.returns-clause-forms
returns-clause-forms c = ones.forms

pub returns-clause-blocks : goal.returns-clause-blocks
returns-clause-blocks c = ones.blocks

pub returns-clause-parts : goal.returns-clause-parts
returns-clause-parts c = ones.parts

pub returns-clause-units : goal.returns-clause-units
returns-clause-units c = ones.units
