-- No slot is no block.
use Rattle.std.proofs.Common.{ap, ◌∙◌}
use Rattle.f3_heap.specs.Plain.{live_slots}
use Rattle.f3_heap.proofs.Slots.{live-nil}
use Rattle.f3_heap.proofs.plain.PlainBlocks.new.Goals as goal

pub returns : goal.returns
returns c = λ i. record { blocks = (ap live_slots (c.new.ensures.items) ∙ live-nil) i; size = c.args.words }
