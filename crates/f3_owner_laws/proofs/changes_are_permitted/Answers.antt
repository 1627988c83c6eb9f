use Rattle.f3_owner_laws.proofs.changes_are_permitted.Goals as goal

pub returns : goal.returns
returns c = λ sources p m. c.changes_are_permitted.ensures p (c.accepted_is_lawful.ensures sources p m)
