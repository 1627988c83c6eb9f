-- One word of a live slot is written.
use Rattle.std.proofs.Common.{◌<◌, ap, sym, subst, refl, arith, slice_set, length, w64}
use Rattle.std.proofs.lemmas.Int.{to_z-of_z}
use mir.Val.{SFits}
use Rattle.f3_live_blocks.specs.Blocks.{Heap, IsLive}
use Rattle.f3_heap.proofs.Slots.{slot-written, read-words, live-within}
use Rattle.f3_heap.proofs.plain.PlainBlocksBlocks.write.Goals as goal

pub index_mut-slot-requires : goal.index_mut-slot-requires
index_mut-slot-requires c =
    let within : c.place-place.result < length c.self.inside.slots.items = live-within c.self.inside.slots.items c.place-place.result c.args.block c.place-place.ensures (subst (λ (h : Heap). IsLive h.blocks c.args.block) (sym c.self.view_is) c.requires.live) in
    omega arith

pub index_mut-requires : goal.index_mut-requires
index_mut-requires c =
    let same = read-words c.self.inside.slots.items c.place-place.result c.args.block c.index_mut-slot.result.now c.args.self.now.blocks (ap (λ (h : Heap). h.blocks) c.self.view_is) c.place-place.ensures c.requires.live c.index_mut-slot.ensures.value in
    omega (arith, ap length same, c.requires.within)

pub returns-clause-written : goal.returns-clause-written
returns-clause-written c =
    let fits : SFits w64 c.args.value = c.ranges.value in
    rw to_z-of_z (slot-written c.self.inside.slots.items c.place-place.result c.args.block c.index_mut-slot.result.now c.args.self.now.blocks (ap (λ (h : Heap). h.blocks) c.self.view_is) c.place-place.ensures c.requires.live c.index_mut-slot.ensures.value
    _ _ refl (ap (λ ws. slice_set ws c.args.at c.args.value) (read-words c.self.inside.slots.items c.place-place.result c.args.block c.index_mut-slot.result.now c.args.self.now.blocks (ap (λ (h : Heap). h.blocks) c.self.view_is) c.place-place.ensures c.requires.live c.index_mut-slot.ensures.value)) refl)
