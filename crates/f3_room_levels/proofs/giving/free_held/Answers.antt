use Rattle.std.proofs.Common.{◌<◌, ◌≡◌, true, sym, ◌∙◌, arith}
use Rattle.f3_live_blocks.specs.Blocks.{pins_of}
use Rattle.f3_desc.specs.Layout.{shape_in}
use Rattle.f3_objects.specs.Tree.{elements}
use Rattle.f3_objects.proofs.Holders.{allocation, frees_none, frees_pinned, frees_stuck, frees_holder, holder_gone, holder_within}
use Rattle.f3_objects.proofs.Freeing.{unpinned_after}
use Rattle.f3_room_levels.proofs.giving.free_held.Goals as goal

pub returns-in_default-clause-freed : goal.returns-in_default-clause-freed
returns-in_default-clause-freed g c = λ rank x h.
    let s = shape_in c.args.layout.now c.args.of in
    frees_none (g.B.Blocks.blocks c.args.heap.now) c.args.block c.args.at rank s x h (sym (c.block_held.ensures rank s x h) ∙ c.in_default.is)

pub returns-then-pins-gt0-clause-freed : goal.returns-then-pins-gt0-clause-freed
returns-then-pins-gt0-clause-freed g c = λ rank x h.
    let s = shape_in c.args.layout.now c.args.of in
    let some = sym (c.block_held.ensures rank s x h) ∙ c.in-Some.is in
    let pinned : 0 < pins_of (g.B.Blocks.blocks c.args.heap.now) c.in-Some.inner = omega (arith, c.pins.ensures) in
    frees_pinned (g.B.Blocks.blocks c.args.heap.now) c.args.block c.args.at rank s c.in-Some.inner x h some pinned

pub free_contents-requires-clause-holds : goal.free_contents-requires-clause-holds
free_contents-requires-clause-holds g c =
    let s = shape_in c.args.layout.now c.args.of in
    let h = c.requires.holds in
    let a = allocation (g.B.Blocks.blocks c.args.heap.now) c.args.block c.args.at h.0 s c.in-Some.inner h.1 h.2 (sym (c.block_held.ensures h.0 s h.1 h.2) ∙ c.in-Some.is) in
    (elements a.dims, a.contents, a.inside)

pub returns-in-Err-clause-freed : goal.returns-in-Err-clause-freed
returns-in-Err-clause-freed g c = λ rank x h.
    let s = shape_in c.args.layout.now c.args.of in
    let a = allocation (g.B.Blocks.blocks c.args.heap.now) c.args.block c.args.at rank s c.in-Some.inner x h (sym (c.block_held.ensures rank s x h) ∙ c.in-Some.is) in
    let z : pins_of (g.B.Blocks.blocks c.args.heap.now) c.in-Some.inner ≡ 0 = omega (arith, c.pins.ensures) in
    frees_stuck (g.B.Blocks.blocks c.args.heap.now) (g.B.Blocks.blocks c.free_contents.new.heap) c.args.block c.args.at c.in-Some.inner s x h.stands a z
    ((c.in-Err.ensures {u = tt}).freed (elements a.dims) a.contents a.inside)

pub give-requires : goal.give-requires
give-requires g c =
    let s = shape_in c.args.layout.now c.args.of in
    let h = c.requires.holds in
    let a = allocation (g.B.Blocks.blocks c.args.heap.now) c.args.block c.args.at h.0 s c.in-Some.inner h.1 h.2 (sym (c.block_held.ensures h.0 s h.1 h.2) ∙ c.in-Some.is) in
    ((c.in-Ok.ensures {u = tt}).freed (elements a.dims) a.contents a.inside).replaced.live

pub returns-in-Err-give-clause-freed : goal.returns-in-Err-give-clause-freed
returns-in-Err-give-clause-freed g c = λ rank x h.
    let s = shape_in c.args.layout.now c.args.of in
    let a = allocation (g.B.Blocks.blocks c.args.heap.now) c.args.block c.args.at rank s c.in-Some.inner x h (sym (c.block_held.ensures rank s x h) ∙ c.in-Some.is) in
    let z : pins_of (g.B.Blocks.blocks c.args.heap.now) c.in-Some.inner ≡ 0 = omega (arith, c.pins.ensures) in
    let k = unpinned_after (g.B.Blocks.blocks c.args.heap.now) (g.B.Blocks.blocks c.free_contents.new.heap) c.in-Some.inner a.contents true
    ((c.in-Ok.ensures {u = tt}).freed (elements a.dims) a.contents a.inside) z in
    let e = (c.in-Err-give.ensures {u = tt}).unpinned.1 k in
    absurd (cc)

pub write-requires-clause-live : goal.write-requires-clause-live
write-requires-clause-live g c =
    let s = shape_in c.args.layout.now c.args.of in
    let h = c.requires.holds in
    let a = allocation (g.B.Blocks.blocks c.args.heap.now) c.args.block c.args.at h.0 s c.in-Some.inner h.1 h.2 (sym (c.block_held.ensures h.0 s h.1 h.2) ∙ c.in-Some.is) in
    (holder_gone (g.B.Blocks.blocks c.args.heap.now) (g.B.Blocks.blocks c.free_contents.new.heap) (g.B.Blocks.blocks c.give.new.self) c.args.block c.args.at c.in-Some.inner s h.1 true h.2.stands a
    ((c.in-Ok.ensures {u = tt}).freed (elements a.dims) a.contents a.inside) (c.in-Ok-give.ensures {u = tt}).given).0

pub write-requires-clause-within : goal.write-requires-clause-within
write-requires-clause-within g c =
    let s = shape_in c.args.layout.now c.args.of in
    let h = c.requires.holds in
    let a = allocation (g.B.Blocks.blocks c.args.heap.now) c.args.block c.args.at h.0 s c.in-Some.inner h.1 h.2 (sym (c.block_held.ensures h.0 s h.1 h.2) ∙ c.in-Some.is) in
    let e = (holder_gone (g.B.Blocks.blocks c.args.heap.now) (g.B.Blocks.blocks c.free_contents.new.heap) (g.B.Blocks.blocks c.give.new.self) c.args.block c.args.at c.in-Some.inner s h.1 true h.2.stands a
    ((c.in-Ok.ensures {u = tt}).freed (elements a.dims) a.contents a.inside) (c.in-Ok-give.ensures {u = tt}).given).1 in
    let w = holder_within (g.B.Blocks.blocks c.args.heap.now) c.args.block c.args.at h.0 s h.1 h.2 in
    rw e w

pub returns-clause-freed : goal.returns-clause-freed
returns-clause-freed g c = λ rank x h.
    let s = shape_in c.args.layout.now c.args.of in
    let a = allocation (g.B.Blocks.blocks c.args.heap.now) c.args.block c.args.at rank s c.in-Some.inner x h (sym (c.block_held.ensures rank s x h) ∙ c.in-Some.is) in
    let z : pins_of (g.B.Blocks.blocks c.args.heap.now) c.in-Some.inner ≡ 0 = omega (arith, c.pins.ensures) in
    frees_holder (g.B.Blocks.blocks c.args.heap.now) (g.B.Blocks.blocks c.free_contents.new.heap) (g.B.Blocks.blocks c.give.new.self) (g.B.Blocks.blocks c.write.new.self) c.args.block c.args.at
    c.in-Some.inner s x h.stands a z ((c.in-Ok.ensures {u = tt}).freed (elements a.dims) a.contents a.inside) (c.in-Ok-give.ensures {u = tt}).given c.write.ensures.written
