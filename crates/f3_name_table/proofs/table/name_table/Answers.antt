use Rattle.f3_name_table.proofs.Joined.{text_refused}
use Rattle.f3_name_table.proofs.table.name_table.Goals as goal

pub returns-in-Err : goal.returns-in-Err
returns-in-Err c = rw c.from.ensures (text_refused c.args.sources.now c.in-Err.fault c.in-Err.ensures)
