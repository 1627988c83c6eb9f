use Rattle.std.proofs.Common.{rules, ap, ◌∙◌, ◌||◌}
use Rattle.f3_references.proofs.Building.{order_more}
use Rattle.f3_references.proofs.constructors.is_constructed.Goals as goal

pub loop-position-preserved : goal.loop-position-preserved
loop-position-preserved c =
    let all = order_more c.args.components.now.entries c.args.given.now c.loop-position.position _ c.loop-position.taken.keys c.take.new.taken.keys c.loop-position.keyed c.either-keyed.result c.place_for-place.result
    c.stands.result c.loop-position.right c.both-right.result _ _ c.loop-position-test.true c.place_for-place.ensures c.stands.ensures
    (search rules) (c.either-keyed.ensures ∙ ap (λ x. c.loop-position.keyed || x) c.is_keyed.ensures) c.both-right.ensures
    c.loop-position.invariant.right c.loop-position.invariant.taken in
    record { right = all.0; taken = all.1 }
