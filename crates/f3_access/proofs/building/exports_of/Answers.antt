use Rattle.std.proofs.Common.{ap, ◌∙◌}
use Rattle.f3_access.specs.Parts.{places_from}
use Rattle.f3_access.proofs.building.exports_of.Goals as goal

pub returns-clause-places : goal.returns-clause-places
returns-clause-places c = λ n. c.in_ok-places.ensures n ∙ ap (λ l. places_from 0 l n) c.deref.ensures.value
