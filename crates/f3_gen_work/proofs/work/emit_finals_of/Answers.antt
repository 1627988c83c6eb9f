use Rattle.std.proofs.Common.{◌≤◌, length}
use Rattle.std.proofs.lemmas.Option.{slice_get_past}
use Rattle.f3_gen_values.proofs.Emitting.{emitted_none}
use Rattle.f3_gen_work.proofs.work.emit_finals_of.Goals as goal

pub returns-in-None : goal.returns-in-None
returns-in-None c =
    let past : length c.args.types.now ≤ c.args.number = rw c.items.ensures at c.in-None.ensures.lookup.3 in
    rw (slice_get_past c.args.types.now c.args.number past) (emitted_none c.args.code.now.items)
