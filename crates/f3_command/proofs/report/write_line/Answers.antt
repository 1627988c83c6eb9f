use Rattle.std.proofs.Common.{[], ◌∷◌}
use Rattle.f3_output.proofs.Outputs.{wrote_more, faulted_behind, faulted_before}
use Rattle.f3_command.proofs.Parts.{on_ok, on_err}
use Rattle.f3_command.proofs.report.write_line.Goals as goal

pub returns-in-Ok-clause-all : goal.returns-in-Ok-clause-all
returns-in-Ok-clause-all g c = let w = rw c.as_bytes.ensures.value at c.in-Ok.ensures.all in on_ok _ (wrote_more w) c.write_line_feed.ensures.all

pub returns-in-Ok-clause-front : goal.returns-in-Ok-clause-front
returns-in-Ok-clause-front g c = let w = rw c.as_bytes.ensures.value at c.in-Ok.ensures.all in on_err _ (faulted_behind w) c.write_line_feed.ensures.front

pub returns-in-Err-clause-front : goal.returns-in-Err-clause-front
returns-in-Err-clause-front g c = let f = rw c.as_bytes.ensures.value at c.in-Err.ensures.front in faulted_before (10 ∷ []) f
