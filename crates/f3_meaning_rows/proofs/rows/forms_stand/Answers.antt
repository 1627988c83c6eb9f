use Rattle.f3_meaning_rows.proofs.Told.{forms_stand}
use Rattle.f3_meaning_rows.proofs.rows.forms_stand.Goals as goal

pub returns : goal.returns
returns c = forms_stand
