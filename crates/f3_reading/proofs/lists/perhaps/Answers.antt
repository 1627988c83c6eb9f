use Rattle.std.proofs.Common.{arith, refl}
use Rattle.std.specs.Fn.{FnReturnsAt}
use Rattle.f3_reading.proofs.lists.perhaps.Goals as goal

pub returns-clause-shorter : goal.returns-clause-shorter
returns-clause-shorter g c =
    let said : FnReturnsAt g.F.Fn c.args.part c.in-Some.tail.now _ = record { shown = c.in-Some.tail; shows = refl; says = record { met = c.in_ok-found-in-Some.ensures } } in
    let fewer = c.requires.shortens c.in-Some.tail.now c.in_ok-found-in-Some.found c.in_ok-found-in-Some.rest said in
    let here = c.in-Some.ensures.1 in
    omega (arith, fewer, here)
