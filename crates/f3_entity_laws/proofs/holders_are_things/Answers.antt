use Rattle.f3_entity_laws.proofs.Entities as entities
use Rattle.f3_entity_laws.proofs.holders_are_things.Goals as goal

pub returns-clause-things : goal.returns-clause-things
returns-clause-things c = entities.holders_of

pub returns-clause-holders : goal.returns-clause-holders
returns-clause-holders c = entities.holders
