-- The entities of what is accepted agree and it makes sense, so its elaborated program is pure.
use Rattle.f3_spelled_laws.proofs.Units.{bodies}
use Rattle.f3_unbroken_laws.proofs.Whole.{unbroken_is_pure}
use Rattle.f3_accepted_laws.specs.Quiet.{AcceptedIsPure}
use Rattle.f3_accepted_laws.proofs.Accepted.{agree}
use Rattle.f3_accepted_laws.proofs.Sense.{accepted_sense}
use Rattle.f3_accepted_laws.proofs.Unbroken.{elaborates, scopes, unbroken}

pub accepted_pure : AcceptedIsPure
accepted_pure sources t look order p accepted means ordered seen =
    unbroken_is_pure t look order p (unbroken sources t look order accepted means ordered) (elaborates sources t look order accepted means ordered p seen)
    (bodies sources t accepted.spelled (scopes sources t look order accepted means ordered)) (agree sources t look order p accepted means ordered seen)
    (accepted_sense sources t look order p accepted means ordered seen)
