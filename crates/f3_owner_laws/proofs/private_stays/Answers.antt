use Rattle.f3_owner_laws.proofs.private_stays.Goals as goal

pub returns : goal.returns
returns c = λ sources p m. c.private_stays.ensures p (c.accepted_is_lawful.ensures sources p m)
