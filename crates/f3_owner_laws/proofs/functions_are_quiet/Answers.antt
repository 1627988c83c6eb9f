use Rattle.f3_unbroken_laws.specs.Laws.{pure_in}
use Rattle.f3_owner_laws.proofs.functions_are_quiet.Goals as goal

pub returns : goal.returns
returns c = λ sources p m. c.functions_are_quiet.ensures p (pure_in m.tree) (c.accepted_is_pure.ensures sources p m m.tree m.accepted.spelled)
