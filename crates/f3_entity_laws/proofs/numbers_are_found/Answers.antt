use Rattle.f3_entity_laws.proofs.Found as found
use Rattle.f3_entity_laws.proofs.numbers_are_found.Goals as goal

pub returns-clause-statics : goal.returns-clause-statics
returns-clause-statics c = found.statics

pub returns-clause-procedures : goal.returns-clause-procedures
returns-clause-procedures c = found.procedures

pub returns-clause-types : goal.returns-clause-types
returns-clause-types c = found.types

pub returns-clause-numbered : goal.returns-clause-numbered
returns-clause-numbered c = found.all_types

pub returns-clause-locals : goal.returns-clause-locals
returns-clause-locals c = found.locals

pub returns-clause-member_locals : goal.returns-clause-member_locals
returns-clause-member_locals c = found.member_locals
