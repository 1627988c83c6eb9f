-- What is accepted breaks no rule, so its elaborated program fits, and its code has known kinds.
use Rattle.f3_spelled_laws.proofs.Units.{bodies}
use Rattle.f3_agreement_laws.specs.Unbroken.{IsUnbroken}
use Rattle.f3_kind_laws.proofs.Whole.{agree as kinds_agree}
use Rattle.f3_accepted_laws.proofs.Accepted.{agree as entities_agree}
use Rattle.f3_levelled_laws.proofs.Initials.{written as initials_written}
use Rattle.f3_levelled_laws.proofs.Units.{levelled}
use Rattle.f3_bounded_laws.proofs.Declarations.{written}
use Rattle.f3_bounded_laws.proofs.Units.{bounded}
use Rattle.f3_fitted_laws.proofs.Whole.{fits}
use Rattle.f3_cell_kinds.proofs.OfProgram.{code_has_kinds}
use Rattle.f3_cell_kinds.proofs.Running.{runs_hold}
use Rattle.f3_accepted_laws.proofs.Sense.{accepted_sense}
use Rattle.f3_accepted_laws.proofs.Unbroken.{elaborates, unbroken}
use Rattle.f3_accepted_code_laws.specs.Laws.{AcceptedFits, AcceptedCodeHasKinds, AcceptedRunsHold}

pub accepted_fits : AcceptedFits
accepted_fits sources t look order p accepted means ordered seen =
    let free : IsUnbroken t look order = unbroken sources t look order accepted means ordered in
    fits t look order p (bodies sources t accepted.spelled free.scopes) (levelled sources t accepted.spelled) (bounded sources t accepted.spelled)
    (written sources t accepted.spelled) free seen (entities_agree sources t look order p accepted means ordered seen)
    (kinds_agree p t look order (initials_written sources t accepted.spelled) free (elaborates sources t look order accepted means ordered p seen))

pub accepted_has_kinds : AcceptedCodeHasKinds
accepted_has_kinds sources t look order p accepted means ordered seen =
    code_has_kinds p (accepted_sense sources t look order p accepted means ordered seen) (accepted_fits sources t look order p accepted means ordered seen)

pub accepted_runs : AcceptedRunsHold
accepted_runs sources t look order p accepted means ordered seen limit answers k s stand reached =
    runs_hold limit p (accepted_sense sources t look order p accepted means ordered seen) (accepted_fits sources t look order p accepted means ordered seen)
    answers k s stand reached
