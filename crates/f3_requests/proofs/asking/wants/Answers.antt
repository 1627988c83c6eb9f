use Rattle.std.proofs.Common.{ap, sym}
use Rattle.f3_gen_values.specs.Emitted.{taken}
use Rattle.f3_cells.specs.States.{setting, state_of, code_of}
use Rattle.f3_requests.specs.Inner.Counted.{counted}
use Rattle.f3_requests.proofs.Wanting.{no_wants}
use Rattle.f3_requests.proofs.asking.wants.Goals as goal

pub returns-in-Call : goal.returns-in-Call
returns-in-Call c = rw c.in-Call.is (c.call_wants.ensures (taken (setting c.args.scene.now.program.now) c.args.initial.now))

pub returns-in-New : goal.returns-in-New
returns-in-New c = rw c.in-New.is c.new_wants.ensures

pub returns-in-Take : goal.returns-in-Take
returns-in-Take c = rw c.in-Take.is (c.assigned_wants.ensures c.args.scene.now.program.now)

pub returns-in-Allocate : goal.returns-in-Allocate
returns-in-Allocate c = rw c.in-Allocate.is c.allocate_wants.ensures

pub returns-in-SelectValue : goal.returns-in-SelectValue
returns-in-SelectValue c = rw c.in-SelectValue.is (c.held_wants.ensures c.args.scene.now.program.now)

pub returns-in_default : goal.returns-in_default
returns-in_default c = ap counted (sym (no_wants 1000 (code_of c.args.scene.now) c.args.act.now (taken (setting c.args.scene.now.program.now) c.args.initial.now)
    (state_of c.args.scene.now.program.now c.args.state.now) c.in_default.not-Call c.in_default.not-New c.in_default.not-Take c.in_default.not-Allocate
    c.in_default.not-SelectValue))
