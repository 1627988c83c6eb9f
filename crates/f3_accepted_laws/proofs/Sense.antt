-- The elaborated program of what is accepted makes sense.
use Rattle.f3_levelled_laws.proofs.Whole.{makes_sense}
use Rattle.f3_accepted_laws.specs.Sense.{AcceptedMakesSense}
use Rattle.f3_accepted_laws.proofs.Unbroken.{elaborates, unbroken}

pub accepted_sense : AcceptedMakesSense
accepted_sense sources t look order p accepted means ordered seen =
    makes_sense sources t look order p accepted.spelled (unbroken sources t look order accepted means ordered)
    (elaborates sources t look order accepted means ordered p seen)
