use Rattle.f3_entity_laws.proofs.Entities as entities
use Rattle.f3_entity_laws.proofs.things_are_of_program.Goals as goal

pub returns : goal.returns
returns c = entities.of_program
