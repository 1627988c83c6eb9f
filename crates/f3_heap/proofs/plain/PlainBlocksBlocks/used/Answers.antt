-- The field is the account.
use Rattle.std.proofs.Common.{◌∙◌, ap, sym}
use Rattle.f3_heap_laws.specs.Account.{used_by}
use Rattle.f3_live_blocks.specs.Blocks.{Heap}
use Rattle.f3_heap.proofs.Slots.{used-slots}
use Rattle.f3_heap.proofs.plain.PlainBlocksBlocks.used.Goals as goal

pub returns : goal.returns
returns c = c.self.invariant.account ∙ sym (used-slots c.self.inside.slots.items) ∙ ap (λ (h : Heap). used_by h.blocks) c.self.view_is
