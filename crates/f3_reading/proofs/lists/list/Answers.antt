use Rattle.std.proofs.Common.{arith, refl}
use Rattle.std.proofs.lemmas.Result.{err_from_is_err_and}
use Rattle.std.specs.Fn.{FnReturnsAt}
use Rattle.f3_reading.proofs.Elements.{begins, one_more, over, refused}
use Rattle.f3_reading.proofs.lists.list.Goals as goal

pub elements-init : goal.elements-init
elements-init g c = rw c.new-found.ensures.items (begins (FnReturnsAt g.F.Fn c.args.element) c.args.items.now)

pub elements-preserved : goal.elements-preserved
elements-preserved g c =
    let said : FnReturnsAt g.F.Fn c.args.element c.elements.rest.now _ = record { shown = c.elements.rest; shows = refl; says = record { met = c.in_ok-one.ensures } } in
    let fewer = c.requires.shortens c.elements.rest.now c.in_ok-one.one c.in_ok-one.after said in
    let here = c.in-Some.ensures in
    rw c.in_ok-push.ensures.items (one_more (FnReturnsAt g.F.Fn c.args.element) c.args.items.now c.elements.rest.now c.in-Some.tail.now c.elements.found.items c.in_ok-one.one c.in_ok-one.after c.elements.invariant said here.0 (omega (arith, fewer, here.1)))

pub elements-smaller : goal.elements-smaller
elements-smaller g c =
    let said : FnReturnsAt g.F.Fn c.args.element c.elements.rest.now _ = record { shown = c.elements.rest; shows = refl; says = record { met = c.in_ok-one.ensures } } in
    let fewer = c.requires.shortens c.elements.rest.now c.in_ok-one.one c.in_ok-one.after said in
    let here = c.in-Some.ensures in
    omega (arith, fewer, here.1)

pub returns-in_err-one-clause-read : goal.returns-in_err-one-clause-read
returns-in_err-one-clause-read g c =
    let p = err_from_is_err_and c.from_residual.result c.from_residual.ensures.1 in
    let said : FnReturnsAt g.F.Fn c.args.element c.elements.rest.now _ = record { shown = c.elements.rest; shows = refl; says = record { met = c.in_err-one.ensures } } in
    record { is = rw (p.1, p.2) (refused (FnReturnsAt g.F.Fn c.args.element) c.args.items.now c.elements.rest.now c.elements.found.items c.in_err-one.field-0.0 c.elements.invariant said) }

pub returns-in-None-clause-read : goal.returns-in-None-clause-read
returns-in-None-clause-read g c =
    let said : FnReturnsAt g.F.Fn c.args.element c.elements.rest.now _ = record { shown = c.elements.rest; shows = refl; says = record { met = c.in_ok-one.ensures } } in
    record { is = rw (c.shrink_to_fit.ensures.items, c.in_ok-push.ensures.items) (over (FnReturnsAt g.F.Fn c.args.element) c.args.items.now c.elements.rest.now c.elements.found.items c.in_ok-one.one c.in_ok-one.after c.elements.invariant said c.in-None.ensures) }

pub returns-in-None-clause-shorter : goal.returns-in-None-clause-shorter
returns-in-None-clause-shorter g c =
    let said : FnReturnsAt g.F.Fn c.args.element c.elements.rest.now _ = record { shown = c.elements.rest; shows = refl; says = record { met = c.in_ok-one.ensures } } in
    let fewer = c.requires.shortens c.elements.rest.now c.in_ok-one.one c.in_ok-one.after said in
    omega (arith, fewer, c.elements.invariant.shorter)
