use Rattle.f3_meaning_rows.proofs.Corners.{corners_show}
use Rattle.f3_meaning_rows.proofs.rows.corners_show.Goals as goal

pub returns : goal.returns
returns c = corners_show
