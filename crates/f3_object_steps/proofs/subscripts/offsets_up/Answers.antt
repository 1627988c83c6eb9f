use Rattle.std.proofs.Common.{◌≡◌, ◌<◌, ◌-◌, ◌+◌, ◌++◌, ◌∙◌, pos, map, sym, ap, rules, arith}
use Rattle.std.specs.Prelude.{◌+ℤ◌, ◌-ℤ◌, nat_abs}
use Rattle.f3_meaning_whole.specs.Act.{is_inside}
use Rattle.f3_data.specs.Values.{span_of}
use Rattle.f3_object_steps.specs.Walks.{subscripts_from}
use Rattle.f3_object_steps.proofs.Stepping.{inside_behind, offsets_behind, last_inside, last_offset, up_behind, up_within, up_next}
use Rattle.f3_object_steps.proofs.subscripts.offsets_up.Goals as goal

pub overflow_add-offset : goal.overflow_add-offset
overflow_add-offset c = let w = up_within c.loop-left.offset c.distance_of-distance.result c.loop-left.left c.args.span.extent c.loop-left-test.true c.loop-left.invariant.2 in search rules

pub loop-left-preserved : goal.loop-left-preserved
loop-left-preserved c =
    let i : c.loop-left.offset < c.args.span.extent = omega arith in
    let next : pos (c.loop-left.offset + c.distance_of-distance.result) ≡ pos c.loop-left.offset +ℤ c.args.walk.step =
    ap (λ n. pos (c.loop-left.offset + n)) c.distance_of-distance.ensures ∙ up_behind c.args.walk.step c.loop-left.offset c.requires.up in (
      inside_behind (span_of c.args.span) c.args.walk.step c.loop-left.offset (c.loop-left.offset + c.distance_of-distance.result) c.loop-left.left i c.loop-left-test.true next ∙ c.loop-left.invariant.0,
      ap (λ us. us ++ map (λ z. nat_abs (z -ℤ c.args.span.lower)) (subscripts_from c.args.span.lower (c.loop-left.offset + c.distance_of-distance.result) (c.loop-left.left - 1) c.args.walk.step)) c.push_reserved.ensures.items
          ∙ offsets_behind c.args.span.lower c.args.walk.step c.loop-left.offset (c.loop-left.offset + c.distance_of-distance.result) c.loop-left.left c.loop-left.offsets.items c.loop-left-test.true next ∙ c.loop-left.invariant.1,
      up_next c.loop-left.offset c.distance_of-distance.result c.loop-left.left c.args.span.extent c.loop-left-test.true c.loop-left.invariant.2,
      omega (arith, c.push_reserved.ensures.len),
      omega (arith, c.push_reserved.ensures.capacity),
    )

pub returns : goal.returns
returns c =
    let none : c.loop-left.left ≡ 0 = omega arith in
    let i : c.loop-left.offset < c.args.span.extent = omega arith in (
      sym c.loop-left.invariant.0
          ∙ ap (λ k. is_inside (span_of c.args.span) (subscripts_from c.args.span.lower c.loop-left.offset k c.args.walk.step)) none
          ∙ last_inside (span_of c.args.span) c.args.walk.step c.loop-left.offset i,
      c.push_reserved-2.ensures.items
          ∙ ap (λ us. c.loop-left.offsets.items ++ us) (sym (last_offset c.args.span.lower c.args.walk.step c.loop-left.offset))
          ∙ ap (λ k. c.loop-left.offsets.items ++ map (λ z. nat_abs (z -ℤ c.args.span.lower)) (subscripts_from c.args.span.lower c.loop-left.offset k c.args.walk.step)) (sym none)
          ∙ c.loop-left.invariant.1,
    )
