use Rattle.std.proofs.Common.{◌+◌, ◌≡◌, ap, refl, ◌∙◌, arith}
use Rattle.f3_finalizable.specs.Inner.Holders.{rows_of}
use Rattle.f3_finalizable.proofs.Spreading.{work, things_begin, things_step, things_end}
use Rattle.f3_finalizable.proofs.marks.marks.Goals as goal

pub loop-entity-init : goal.loop-entity-init
loop-entity-init c = things_begin c.args.things.now _ c.in_ok-seen.seen.items c.new-todo.result.items (c.see_finals.new.seen.items, c.see_finals.new.todo.items) refl c.in_ok-seen.ensures c.new-todo.ensures.items c.in_ok-see_finals.ensures

pub loop-entity-preserved : goal.loop-entity-preserved
loop-entity-preserved c =
    (things_step c.args.things.now (rows_of c.deref.result.now) c.loop-entity.seen.items c.loop-entity.todo.items c.pop.new.self.items c.in-Some.entity (c.see_holders.new.seen.items, c.see_holders.new.todo.items)
    (ap rows_of c.deref.ensures.value ∙ c.in_ok-holders.ensures) c.in-Some.ensures.items c.in_ok-see_holders.ensures c.loop-entity.invariant).0

pub loop-entity-smaller : goal.loop-entity-smaller
loop-entity-smaller c =
    let r = things_step c.args.things.now (rows_of c.deref.result.now) c.loop-entity.seen.items c.loop-entity.todo.items c.pop.new.self.items c.in-Some.entity (c.see_holders.new.seen.items, c.see_holders.new.todo.items)
    (ap rows_of c.deref.ensures.value ∙ c.in_ok-holders.ensures) c.in-Some.ensures.items c.in_ok-see_holders.ensures c.loop-entity.invariant in
    let one : work (c.see_holders.new.seen.items, c.see_holders.new.todo.items) + 1 ≡ work (c.loop-entity.seen.items, c.loop-entity.todo.items) = r.1 in
    omega (arith, one)

pub returns : goal.returns
returns c = things_end c.args.things.now c.loop-entity.seen.items c.loop-entity.todo.items (omega (arith, c.in_default.ensures.cases.0, c.loop-entity.todo.ok.0)) c.loop-entity.invariant
