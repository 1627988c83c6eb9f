use Rattle.f3_owner_laws.proofs.functions_are_pure.Goals as goal

pub returns : goal.returns
returns c = λ sources p m f q at is.
    let (pure, given) = (c.accepted_is_pure.ensures sources p m m.tree m.accepted.spelled).functions f q at is in
    ((m.tree, m.accepted.spelled, pure), given)
