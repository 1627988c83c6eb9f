-- The words of a slot are those of a list.
use Rattle.std.proofs.Common.{ℕ, ◌<◌, ◌^◌, length, subst}
use Rattle.f3_live_blocks.specs.Blocks.{Heap, words_of}
use Rattle.f3_heap.proofs.Short.{slots_short}
use Rattle.f3_heap.proofs.plain.PlainBlocksBlocks.blocks_are_short.Goals as goal

pub returns : goal.returns
returns c = subst (λ (h : Heap). (b : ℕ) → length (words_of h.blocks b) < 2 ^ 63) c.self.view_is (slots_short c.self.inside.slots.items)
