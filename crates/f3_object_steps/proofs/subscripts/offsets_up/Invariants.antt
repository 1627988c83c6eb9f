use Rattle.std.proofs.Common.{◌≡◌, ◌<◌, ◌++◌, ◌+◌, ◌*◌, map, vec_len, vec_capacity}
use Rattle.std.specs.Prelude.{◌-ℤ◌, nat_abs}
use Rattle.f3_meaning_whole.specs.Act.{is_inside}
use Rattle.f3_data.specs.Values.{span_of}
use Rattle.f3_object_steps.specs.Walks.{subscripts_from}
use Rattle.f3_object_steps.proofs.subscripts.offsets_up.Given as goal

abbrev pub invariant-loop-left : goal.invariant-loop-left
invariant-loop-left l =
    (is_inside (span_of l.fn.span) (subscripts_from l.fn.span.lower l.offset l.left l.fn.walk.step) ≡ is_inside (span_of l.fn.span) (subscripts_from l.fn.span.lower l.fn.first l.behind l.fn.walk.step))
    × (l.offsets.items ++ map (λ z. nat_abs (z -ℤ l.fn.span.lower)) (subscripts_from l.fn.span.lower l.offset l.left l.fn.walk.step) ≡ map (λ z. nat_abs (z -ℤ l.fn.span.lower)) (subscripts_from l.fn.span.lower l.fn.first l.behind l.fn.walk.step))
    × (l.offset + l.left * l.distance < l.fn.span.extent)
    × (vec_len l.offsets + l.left ≡ l.behind)
    × (l.behind < vec_capacity l.offsets)

abbrev pub decreases-loop-left : goal.decreases-loop-left
decreases-loop-left l = l.left
