use Rattle.f3_word_account.proofs.Empty.{lines_hold_no_values}
use Rattle.f3_word_account.proofs.lines_hold_no_values.Goals as goal

pub returns : goal.returns
returns c = lines_hold_no_values
