-- A change of pins or words leaves every block live.
use Rattle.std.proofs.Common.{sym, subst}
use Rattle.f3_live_blocks.specs.Blocks.{Live, IsLive}
use Rattle.f3_live_blocks.proofs.Laws.{live-insert}
use Rattle.f3_heap_tests.proofs.calls.answer_of.Goals as goal

pub returns-in-Pin : goal.returns-in-Pin
returns-in-Pin g c = λ q h. subst (λ (m : Live). IsLive m q) (sym c.pin.ensures.counted) (live-insert (g.B.Blocks.blocks c.args.heap.now) c.args.block _ q h)

pub returns-in-Unpin : goal.returns-in-Unpin
returns-in-Unpin g c = λ q h. subst (λ (m : Live). IsLive m q) (sym c.unpin.ensures.counted) (live-insert (g.B.Blocks.blocks c.args.heap.now) c.args.block _ q h)

pub returns-in-Write : goal.returns-in-Write
returns-in-Write g c = λ q h. subst (λ (m : Live). IsLive m q) (sym c.write.ensures.written) (live-insert (g.B.Blocks.blocks c.args.heap.now) c.args.block _ q h)
