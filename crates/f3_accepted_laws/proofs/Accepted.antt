-- The entities of what is accepted agree, and its elaborated program is lawful.
use Rattle.f3_lawful_laws.proofs.Whole.{lawful}
use Rattle.f3_spelled_laws.proofs.Units.{bodies, programs}
use Rattle.f3_accepted_laws.specs.Laws.{EntitiesDoAgree, AcceptedIsLawful}
use Rattle.f3_accepted_laws.proofs.Join.{entities_agree}
use Rattle.f3_accepted_laws.proofs.Unbroken.{named, scopes, types, unbroken}

pub agree : EntitiesDoAgree
agree sources t look order p accepted means ordered seen =
    entities_agree t look order p (unbroken sources t look order accepted means ordered) (named sources t look order accepted means ordered)
    (programs sources t accepted.spelled) seen

pub accepted_lawful : AcceptedIsLawful
accepted_lawful sources t look order p accepted means ordered seen =
    lawful t look order p (bodies sources t accepted.spelled (scopes sources t look order accepted means ordered)) means seen
    (agree sources t look order p accepted means ordered seen) (types sources t look order accepted means ordered)
