use Rattle.f3_elaboration_rows.proofs.Forms.{forms_show}
use Rattle.f3_elaboration_rows.proofs.rows.forms_show.Goals as goal

pub returns : goal.returns
returns c = forms_show
