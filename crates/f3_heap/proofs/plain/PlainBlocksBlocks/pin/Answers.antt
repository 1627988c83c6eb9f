-- The pins of a live slot change.
use Rattle.std.proofs.Common.{◌<◌, ◌+◌, ap, sym, subst, refl, arith, length}
use Rattle.f3_live_blocks.specs.Blocks.{Heap, IsLive}
use Rattle.f3_heap.proofs.Slots.{live-within, slot-pinned, read-pins}
use Rattle.f3_heap.proofs.plain.PlainBlocksBlocks.pin.Goals as goal

pub index_mut-slot-requires : goal.index_mut-slot-requires
index_mut-slot-requires c =
    let within : c.place-place.result < length c.self.inside.slots.items = live-within c.self.inside.slots.items c.place-place.result c.args.block c.place-place.ensures (subst (λ (h : Heap). IsLive h.blocks c.args.block) (sym c.self.view_is) c.requires.live) in
    omega arith

pub overflow_add-slot : goal.overflow_add-slot
overflow_add-slot c =
    let same = read-pins c.self.inside.slots.items c.place-place.result c.args.block c.index_mut-slot.result.now c.args.self.now.blocks (ap (λ (h : Heap). h.blocks) c.self.view_is) c.place-place.ensures c.requires.live c.index_mut-slot.ensures.value in
    omega (arith, same, c.requires.below)

pub returns-clause-counted : goal.returns-clause-counted
returns-clause-counted c =
    slot-pinned c.self.inside.slots.items c.place-place.result c.args.block c.index_mut-slot.result.now c.args.self.now.blocks (ap (λ (h : Heap). h.blocks) c.self.view_is) c.place-place.ensures c.requires.live c.index_mut-slot.ensures.value
    _ _ refl refl (ap (λ n. n + 1) (read-pins c.self.inside.slots.items c.place-place.result c.args.block c.index_mut-slot.result.now c.args.self.now.blocks (ap (λ (h : Heap). h.blocks) c.self.view_is) c.place-place.ensures c.requires.live c.index_mut-slot.ensures.value))
