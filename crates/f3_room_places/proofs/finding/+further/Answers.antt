use Rattle.std.proofs.Common.{rules, sym, subst, List}
use Rattle.std.specs.Prelude.{None}
use Rattle.f3_data.specs.declared.store.Step.{Step}
use Rattle.f3_data.specs.Stores.{step_of, steps_of}
use Rattle.f3_room_places.specs.Places.{IsReached, further}
use Rattle.f3_room_places.proofs.Reached.{stands_next, steps_none, steps_on}
use Rattle.f3_room_places.proofs.finding.+further.Goals as goal

pub returns-in_default-stepped : goal.returns-in_default-stepped
returns-in_default-stepped g t c f is =
    let m = g.B.Blocks.blocks c.args.heap.now in
    subst (λ (ss : List Step). IsReached m None (further f (steps_of ss))) (sym (c.in-Some.ensures.cases).0)
    (steps_none m (step_of c.in-Some.step.now) (steps_of c.in-Some.rest.now) f (c.in_default-stepped.ensures f is))

pub further-requires : goal.further-requires
further-requires g t c κs within =
    (search rules, (search rules, stands_next (g.B.Blocks.blocks c.args.heap.now) c.in-Some-stepped.next _ (c.in-Some-stepped.ensures c.requires.0 c.requires.1)))

pub returns : goal.returns
returns g t c f is =
    let m = g.B.Blocks.blocks c.args.heap.now in
    subst (λ (ss : List Step). IsReached m c.further.result (further f (steps_of ss))) (sym (c.in-Some.ensures.cases).0)
    (steps_on m (step_of c.in-Some.step.now) (steps_of c.in-Some.rest.now) c.in-Some-stepped.next c.further.result f (c.in-Some-stepped.ensures f is) c.further.ensures)
