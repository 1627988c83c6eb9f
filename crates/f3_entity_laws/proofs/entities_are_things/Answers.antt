use Rattle.f3_entity_laws.proofs.Entities as entities
use Rattle.f3_entity_laws.proofs.entities_are_things.Goals as goal

pub returns-clause-entities : goal.returns-clause-entities
returns-clause-entities c = entities.entities

pub returns-clause-stand : goal.returns-clause-stand
returns-clause-stand c = entities.stand

pub returns-clause-declared : goal.returns-clause-declared
returns-clause-declared c = entities.declared

pub returns-clause-things : goal.returns-clause-things
returns-clause-things c = entities.things

pub returns-clause-kinds : goal.returns-clause-kinds
returns-clause-kinds c = entities.kinds

pub returns-clause-homes : goal.returns-clause-homes
returns-clause-homes c = entities.homes
