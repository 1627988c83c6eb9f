use Rattle.f3_owner_laws.proofs.expressions_refer.Goals as goal

pub returns : goal.returns
returns c = λ sources p m. let pure = c.accepted_is_pure.ensures sources p m m.tree m.accepted.spelled in (pure.main, pure.bodies)
