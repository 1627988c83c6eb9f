use Rattle.std.proofs.Common.{◌≡◌, ◌≤◌, ◌-◌, ◌++◌, ◌∙◌, pos, map, sym, ap, arith}
use Rattle.std.specs.Int.RustNames.{unsigned_abs}
use Rattle.std.specs.Prelude.{◌+ℤ◌, ◌-ℤ◌, nat_abs}
use Rattle.f3_meaning_whole.specs.Act.{is_inside}
use Rattle.f3_data.specs.Values.{span_of}
use Rattle.f3_object_steps.specs.Walks.{subscripts_from}
use Rattle.f3_object_steps.proofs.Stepping.{inside_behind, offsets_behind, last_inside, last_offset, down_behind, down_within, down_next}
use Rattle.f3_object_steps.proofs.subscripts.offsets_down.Goals as goal

pub overflow_sub-offset : goal.overflow_sub-offset
overflow_sub-offset c = let w = down_within c.loop-left.offset c.distance_of-distance.result c.loop-left.left c.loop-left-test.true c.loop-left.invariant.3 in omega arith

pub loop-left-preserved : goal.loop-left-preserved
loop-left-preserved c =
    let w = down_within c.loop-left.offset c.distance_of-distance.result c.loop-left.left c.loop-left-test.true c.loop-left.invariant.3 in
    let v : unsigned_abs c.args.walk.step ≤ c.loop-left.offset = omega (arith, c.distance_of-distance.ensures) in
    let next : pos (c.loop-left.offset - c.distance_of-distance.result) ≡ pos c.loop-left.offset +ℤ c.args.walk.step =
    ap (λ n. pos (c.loop-left.offset - n)) c.distance_of-distance.ensures ∙ down_behind c.args.walk.step c.loop-left.offset c.requires.down v in (
      inside_behind (span_of c.args.span) c.args.walk.step c.loop-left.offset (c.loop-left.offset - c.distance_of-distance.result) c.loop-left.left c.loop-left.invariant.2 c.loop-left-test.true next ∙ c.loop-left.invariant.0,
      ap (λ us. us ++ map (λ z. nat_abs (z -ℤ c.args.span.lower)) (subscripts_from c.args.span.lower (c.loop-left.offset - c.distance_of-distance.result) (c.loop-left.left - 1) c.args.walk.step)) c.push_reserved.ensures.items
          ∙ offsets_behind c.args.span.lower c.args.walk.step c.loop-left.offset (c.loop-left.offset - c.distance_of-distance.result) c.loop-left.left c.loop-left.offsets.items c.loop-left-test.true next ∙ c.loop-left.invariant.1,
      omega arith,
      down_next c.loop-left.offset c.distance_of-distance.result c.loop-left.left c.loop-left-test.true c.loop-left.invariant.3,
      omega (arith, c.push_reserved.ensures.len),
      omega (arith, c.push_reserved.ensures.capacity),
    )

pub returns : goal.returns
returns c =
    let none : c.loop-left.left ≡ 0 = omega arith in (
      sym c.loop-left.invariant.0
          ∙ ap (λ k. is_inside (span_of c.args.span) (subscripts_from c.args.span.lower c.loop-left.offset k c.args.walk.step)) none
          ∙ last_inside (span_of c.args.span) c.args.walk.step c.loop-left.offset c.loop-left.invariant.2,
      c.push_reserved-2.ensures.items
          ∙ ap (λ us. c.loop-left.offsets.items ++ us) (sym (last_offset c.args.span.lower c.args.walk.step c.loop-left.offset))
          ∙ ap (λ k. c.loop-left.offsets.items ++ map (λ z. nat_abs (z -ℤ c.args.span.lower)) (subscripts_from c.args.span.lower c.loop-left.offset k c.args.walk.step)) (sym none)
          ∙ c.loop-left.invariant.1,
    )
