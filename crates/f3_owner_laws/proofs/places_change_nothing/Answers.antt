use Rattle.f3_unbroken_laws.specs.Laws.{pure_in}
use Rattle.f3_owner_laws.proofs.places_change_nothing.Goals as goal

pub returns : goal.returns
returns c = λ sources p m. c.places_change_nothing.ensures p (pure_in m.tree) (c.accepted_is_pure.ensures sources p m m.tree m.accepted.spelled)
