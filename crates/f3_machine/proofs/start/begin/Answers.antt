use Rattle.f3_machine.proofs.Beginning.{begins, denied}
use Rattle.f3_machine.proofs.start.begin.Goals as goal

pub returns : goal.returns
returns c = begins c.args.size c.args.program.now c.new-2.result c.new.result c.new-3.result c.in-Some.store c.new-2.ensures.items
    c.new.ensures.items c.new-3.ensures.items (rw c.in-Some.is at (c.in_ok-store.ensures {u = tt}))

pub returns-in_default : goal.returns-in_default
returns-in_default c = denied c.args.size c.args.program.now (rw c.in_default.is at (c.in_ok-store.ensures {u = tt}))
