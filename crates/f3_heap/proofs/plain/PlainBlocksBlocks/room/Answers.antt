-- What is left is the size less the account.
use Rattle.std.proofs.Common.{◌+◌, ◌∙◌, ap, sym, nat_le}
use Rattle.f3_heap_laws.specs.Account.{r, used_by}
use Rattle.f3_live_blocks.specs.Blocks.{Heap}
use Rattle.f3_heap.proofs.Slots.{room_is, used-slots}
use Rattle.f3_heap.proofs.plain.PlainBlocksBlocks.room.Goals as goal

pub returns : goal.returns
returns c =
    c.fits.ensures
    ∙ room_is (r c.args.words) c.self.inside.used c.self.inside.size c.self.invariant.within
    ∙ ap (λ n. nat_le (n + r c.args.words) c.self.inside.size) (c.self.invariant.account ∙ sym (used-slots c.self.inside.slots.items))
    ∙ ap (λ (h : Heap). nat_le (used_by h.blocks + r c.args.words) h.size) c.self.view_is
