use Rattle.std.proofs.Common.{◌≡◌, length}
use Rattle.f3_cells.specs.States.{frame_of}
use Rattle.f3_control_steps.proofs.Latest.{latest_first}
use Rattle.std.proofs.Common.{arith, ◌∙◌}
use Rattle.f3_control_steps.proofs.dummies.latest.Goals as goal

pub returns-else-count-eq0 : goal.returns-else-count-eq0
returns-else-count-eq0 c = λ p. let all : c.len-count.result ≡ length c.args.frames.now.items = c.len-count.ensures ∙ c.args.frames.now.ok.0 in latest_first (frame_of p) c.args.frames.now.items c.index.result.now (omega arith) (rw (← all) c.index.ensures)
