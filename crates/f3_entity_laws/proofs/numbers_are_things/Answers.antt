use Rattle.f3_entity_laws.proofs.Names as names
use Rattle.f3_entity_laws.proofs.numbers_are_things.Goals as goal

pub returns-clause-names : goal.returns-clause-names
returns-clause-names c = names.name_things

pub returns-clause-things_names : goal.returns-clause-things_names
returns-clause-things_names c = names.thing_names

pub returns-clause-types : goal.returns-clause-types
returns-clause-types c = names.type_things

pub returns-clause-things_types : goal.returns-clause-things_types
returns-clause-things_types c = names.thing_types

pub returns-clause-procedures : goal.returns-clause-procedures
returns-clause-procedures c = names.procedure_things

pub returns-clause-things_procedures : goal.returns-clause-things_procedures
returns-clause-things_procedures c = names.thing_procedures

pub returns-clause-results : goal.returns-clause-results
returns-clause-results c = names.result_things

pub returns-clause-things_results : goal.returns-clause-things_results
returns-clause-things_results c = names.thing_results
