-- A change of words leaves every block live.
use Rattle.std.proofs.Common.{sym, subst}
use Rattle.f3_live_blocks.specs.Blocks.{Live, IsLive}
use Rattle.f3_live_blocks.proofs.Laws.{live-insert}
use Rattle.f3_heap_tests.proofs.calls.copy_words.Goals as goal

pub returns : goal.returns
returns g c = λ q h. subst (λ (m : Live). IsLive m q) (sym (g.met.B.Blocks.pair_writes c.args.heap.now c.args.to _)) (live-insert (g.B.Blocks.blocks c.args.heap.now) c.args.to _ q h)
