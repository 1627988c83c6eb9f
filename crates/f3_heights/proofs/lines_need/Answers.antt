use Rattle.f3_heights.proofs.Running.{main_needs, lines_need}
use Rattle.f3_heights.proofs.lines_need.Goals as goal

pub returns : goal.returns
returns c = λ p. (main_needs p, lines_need p)
