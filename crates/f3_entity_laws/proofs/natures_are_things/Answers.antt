use Rattle.f3_entity_laws.proofs.Natures as natures
use Rattle.f3_entity_laws.proofs.natures_are_things.Goals as goal

pub returns-clause-natures : goal.returns-clause-natures
returns-clause-natures c = natures.natures

pub returns-clause-things : goal.returns-clause-things
returns-clause-things c = natures.things
