use Rattle.std.proofs.Common.{sym, ◌∙◌}
use Rattle.f3_code.specs.Account.{used}
use Rattle.f3_data.specs.Stores.{store_of}
use Rattle.f3_gen_values.specs.Emitted.{taken}
use Rattle.f3_cells.specs.States.{setting}
use Rattle.f3_requests.specs.Inner.Counted.{wanted}
use Rattle.f3_requests.proofs.Requested.{answered, some_wanted}
use Rattle.f3_requests.proofs.answering.answer.Goals as goal

pub returns-in-Ok : goal.returns-in-Ok
returns-in-Ok c =
    let x = c.args.scene.now in
    let v = taken (setting x.program.now) c.args.line.now.initial in
    let full = sym c.is_refused.ensures ∙ c.if-not-is_refused.false in
    let some = some_wanted c.args.size (used (store_of c.args.state.now.store)) (wanted x c.args.line.now.act v c.args.state.now) full in
    (full, c.in-Ok.ensures x v c.args.place some.0 some.1)

pub returns-in-Err : goal.returns-in-Err
returns-in-Err c =
    let x = c.args.scene.now in
    let v = taken (setting x.program.now) c.args.line.now.initial in
    let full = sym c.is_refused.ensures ∙ c.if-not-is_refused.false in
    let some = some_wanted c.args.size (used (store_of c.args.state.now.store)) (wanted x c.args.line.now.act v c.args.state.now) full in
    answered c.args.size x c.args.line.now.act v c.args.place c.in-Err.stop c.args.state.now c.refuse.new.state full (c.in-Err.ensures x v c.args.place some.0 some.1)
