use Rattle.f3_fitted_laws.proofs.Whole.{fits}
use Rattle.f3_fitted_laws.proofs.unbroken_fits.Goals as goal

pub returns : goal.returns
returns c = fits
