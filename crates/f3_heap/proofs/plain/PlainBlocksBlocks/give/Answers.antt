-- A live slot is emptied.
use Rattle.std.proofs.Common.{◌≡◌, ◌∙◌, List, ap, sym, refl, arith, length}
use Rattle.f3_heap.specs.declared.plain.Slot.{Slot}
use Rattle.f3_live_blocks.specs.Blocks.{Heap, words_of}
use Rattle.f3_heap_laws.specs.Account.{r}
use Rattle.f3_heap.specs.Plain.{live_slots}
use Rattle.f3_heap.proofs.Slots.{size-within, given-accounted, slot-given, read-words}
use Rattle.f3_heap.proofs.plain.PlainBlocksBlocks.give.Goals as goal
use Rattle.f3_heap.proofs.plain.PlainBlocksBlocks.give.Goals.{After-drop-index_mut}

-- the size is that of the slot
same_size : (c : After-drop-index_mut) → c.size_of_block-size.result ≡ r (length c.index_mut.result.now.words.items)
same_size c =
    let old = read-words c.self.inside.slots.items c.place-at.result c.args.block c.index_mut.result.now c.args.self.now.blocks (ap (λ (h : Heap). h.blocks) c.self.view_is) c.place-at.ensures c.requires c.index_mut.ensures.value in
    let here = ap (λ (h : Heap). words_of h.blocks c.args.block) c.self.view_is in
    let read = ap (λ (xs : List Slot). words_of (live_slots xs) c.args.block) (sym c.deref.ensures.value) ∙ c.slot_of-slot.ensures.words in
    let len : c.len.result ≡ length c.index_mut.result.now.words.items = omega (arith, c.len.ensures, ap length old, ap length here, ap length read) in
    c.size_of_block-size.ensures ∙ ap r len

pub overflow_sub-self : goal.overflow_sub-self
overflow_sub-self c =
    let within = size-within c.self.inside.slots.items c.place-at.result c.args.block c.index_mut.result.now c.args.self.now.blocks (ap (λ (h : Heap). h.blocks) c.self.view_is) c.place-at.ensures c.requires c.index_mut.ensures.value c.self.inside.used c.self.invariant.account in
    omega (arith, within, same_size c)

pub invariant_of-self : goal.invariant_of-self
invariant_of-self c =
    rw (same_size (goal.at.invariant_of-self c).After-drop-index_mut) (given-accounted c.self.inside.slots.items c.place-at.result c.args.block c.index_mut.result.now c.args.self.now.blocks (ap (λ (h : Heap). h.blocks) c.self.view_is) c.place-at.ensures c.requires c.index_mut.ensures.value
    _ c.self.inside.size c.self.inside.used (length c.self.inside.scratch.items) refl (let e = ap length c.new.ensures.items in omega arith) c.self.invariant)

pub returns-clause-given : goal.returns-clause-given
returns-clause-given c =
    slot-given c.self.inside.slots.items c.place-at.result c.args.block c.index_mut.result.now c.args.self.now.blocks (ap (λ (h : Heap). h.blocks) c.self.view_is) c.place-at.ensures c.requires c.index_mut.ensures.value _ refl
