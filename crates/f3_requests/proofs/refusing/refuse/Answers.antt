use Rattle.std.proofs.Common.{[], refl}
use Rattle.f3_meaning_whole.specs.Act.{at}
use Rattle.f3_cells.specs.Cells.{cells_of, here_of}
use Rattle.f3_cells.specs.States.{state_of}
use Rattle.f3_requests.proofs.Requested.{new_fails, held_fails}
use Rattle.f3_requests.proofs.refusing.refuse.Goals as goal

pub returns-in-Call : goal.returns-in-Call
returns-in-Call c = rw c.in-Call.is (c.call.ensures c.in-Call.field-0)

pub returns-in-Take : goal.returns-in-Take
returns-in-Take c = rw c.in-Take.is c.take.ensures

pub returns-in-Allocate : goal.returns-in-Allocate
returns-in-Allocate c = rw c.in-Allocate.is (c.allocate.ensures c.in-Allocate.field-0)

pub returns-in-New : goal.returns-in-New
returns-in-New c = rw c.in-New.is (λ x v place n h.
    let p = x.program.now in
    ([], new_fails c.in-New.field-0 v (at place (here_of p c.args.state.now.here)) (state_of p c.args.state.now) (cells_of p c.args.state.now.stack.items) n h, refl))

pub returns-in-SelectValue : goal.returns-in-SelectValue
returns-in-SelectValue c = rw c.in-SelectValue.is (λ x v place n h.
    let p = x.program.now in
    ([], held_fails c.in-SelectValue.field-0 (at place (here_of p c.args.state.now.here)) (state_of p c.args.state.now) (cells_of p c.args.state.now.stack.items) n h, refl))
