use Rattle.f3_core_rows.proofs.Destroying.{destroying_shows}
use Rattle.f3_core_rows.proofs.rows.destroying_shows.Goals as goal

pub returns : goal.returns
returns c = destroying_shows
