use Rattle.f3_fitted_laws.proofs.Finals.{finals}
use Rattle.f3_fitted_laws.proofs.finals_fit.Goals as goal

pub returns : goal.returns
returns c = finals
