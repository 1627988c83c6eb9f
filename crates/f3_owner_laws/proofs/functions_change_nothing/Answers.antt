use Rattle.f3_unbroken_laws.specs.Laws.{pure_in}
use Rattle.f3_owner_laws.proofs.functions_change_nothing.Goals as goal

pub returns : goal.returns
returns c = λ sources p m. c.functions_change_nothing.ensures p (pure_in m.tree) (c.accepted_is_pure.ensures sources p m m.tree m.accepted.spelled)
