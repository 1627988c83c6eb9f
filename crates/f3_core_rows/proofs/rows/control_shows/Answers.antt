use Rattle.f3_core_rows.proofs.Control.{control_shows}
use Rattle.f3_core_rows.proofs.rows.control_shows.Goals as goal

pub returns : goal.returns
returns c = control_shows
