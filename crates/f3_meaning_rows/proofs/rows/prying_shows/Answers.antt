use Rattle.f3_meaning_rows.proofs.Told.{prying_shows}
use Rattle.f3_meaning_rows.proofs.rows.prying_shows.Goals as goal

pub returns : goal.returns
returns c = prying_shows
