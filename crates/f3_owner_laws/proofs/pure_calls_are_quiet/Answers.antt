use Rattle.f3_unbroken_laws.specs.Laws.{pure_in}
use Rattle.f3_owner_laws.proofs.pure_calls_are_quiet.Goals as goal

pub returns : goal.returns
returns c = λ sources p m depth n f is. c.pure_calls_are_quiet.ensures p (pure_in is.0) (c.accepted_is_pure.ensures sources p m is.0 is.1) depth n f is.2
