use Rattle.std.proofs.Common.{◌+◌, ◌<◌, ◌^◌, get_or, pos, ap, ◌∙◌, arith, rules, w64}
use Rattle.std.proofs.lemmas.Int.{to_z-of_z}
use mir.Val.{SFits}
use Rattle.f3_data.specs.declared.value.Span.{Span}
use Rattle.f3_rooms.specs.Places.{with_word}
use Rattle.f3_room_writing.proofs.Bounding.{one_counted, writes_none, writes_more, lower_live, lower_long, writes_all}
use Rattle.f3_room_writing.proofs.holders.write_bounds.Goals as goal

pub loop-span-init : goal.loop-span-init
loop-span-init g c = writes_none (g.B.Blocks.blocks c.args.heap.now) c.args.block c.args.at c.args.spans.now c.requires.live

pub write-requires-clause-live : goal.write-requires-clause-live
write-requires-clause-live g c = c.loop-span.invariant.live

pub write-requires-clause-within : goal.write-requires-clause-within
write-requires-clause-within g c =
    let w = c.loop-span.invariant.long in
    let r = c.loop-span.invariant.reached in
    let k = c.requires.within in
    omega (arith, c.loop-span-test.true)

pub overflow_cast-span : goal.overflow_cast-span
overflow_cast-span g c =
    let d : Span = record { lower = pos 0; extent = 0 } in
    let lt : (get_or c.args.spans.now c.loop-span.span-index d).extent < 2 ^ 63 = one_counted c.args.spans.now c.loop-span.span-index d c.requires.counted c.loop-span-test.true in
    search rules

pub write-requires-in-loop-span-clause-live : goal.write-requires-in-loop-span-clause-live
write-requires-in-loop-span-clause-live g c =
    let now = g.B.Blocks.blocks c.loop-span.heap in
    let d : Span = record { lower = pos 0; extent = 0 } in
    let s : Span = get_or c.args.spans.now c.loop-span.span-index d in
    let fits : SFits w64 s.lower = search rules in
    lower_live (g.B.Blocks.blocks c.args.heap.now) now c.args.block c.args.at c.loop-span.place c.loop-span.span-index c.args.spans.now c.loop-span.invariant d (g.B.Blocks.blocks c.write.new.self)
    (c.write.ensures.written ∙ ap (with_word now c.args.block c.loop-span.place) (to_z-of_z w64 s.lower fits))

pub write-requires-in-loop-span-clause-within : goal.write-requires-in-loop-span-clause-within
write-requires-in-loop-span-clause-within g c =
    let now = g.B.Blocks.blocks c.loop-span.heap in
    let d : Span = record { lower = pos 0; extent = 0 } in
    let s : Span = get_or c.args.spans.now c.loop-span.span-index d in
    let fits : SFits w64 s.lower = search rules in
    let e = lower_long (g.B.Blocks.blocks c.args.heap.now) now c.args.block c.args.at c.loop-span.place c.loop-span.span-index c.args.spans.now c.loop-span.invariant d (g.B.Blocks.blocks c.write.new.self)
    (c.write.ensures.written ∙ ap (with_word now c.args.block c.loop-span.place) (to_z-of_z w64 s.lower fits)) in
    let r = c.loop-span.invariant.reached in
    let k = c.requires.within in
    omega (arith, c.loop-span-test.true)

pub loop-span-preserved : goal.loop-span-preserved
loop-span-preserved g c =
    let now = g.B.Blocks.blocks c.loop-span.heap in
    let mid = g.B.Blocks.blocks c.write.new.self in
    let d : Span = record { lower = pos 0; extent = 0 } in
    let s : Span = get_or c.args.spans.now c.loop-span.span-index d in
    let lt : s.extent < 2 ^ 63 = one_counted c.args.spans.now c.loop-span.span-index d c.requires.counted c.loop-span-test.true in
    let fits : SFits w64 s.lower = search rules in
    let small : SFits w64 (pos s.extent) = search rules in
    writes_more (g.B.Blocks.blocks c.args.heap.now) now c.args.block c.args.at c.loop-span.place c.loop-span.span-index c.args.spans.now c.loop-span.invariant d c.loop-span-test.true mid
    (c.write.ensures.written ∙ ap (with_word now c.args.block c.loop-span.place) (to_z-of_z w64 s.lower fits)) (g.B.Blocks.blocks c.write-in-loop-span.new.self)
    (c.write-in-loop-span.ensures.written ∙ ap (with_word mid c.args.block (c.loop-span.place + 1)) (to_z-of_z w64 (pos s.extent) small))

pub returns : goal.returns
returns g c = writes_all (g.B.Blocks.blocks c.args.heap.now) (g.B.Blocks.blocks c.loop-span.heap) c.args.block c.args.at c.loop-span.place c.loop-span.span-index c.args.spans.now c.loop-span.invariant c.loop-span-test.false
