use Rattle.f3_pure_laws.proofs.Same.{places_change_nothing}
use Rattle.f3_pure_laws.proofs.places_change_nothing.Goals as goal

pub returns : goal.returns
returns c = places_change_nothing
