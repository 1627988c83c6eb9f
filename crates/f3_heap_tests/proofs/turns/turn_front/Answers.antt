-- The queue stays one of live blocks, each once.
use Rattle.std.proofs.Common.{ℕ, List, sym, subst}
use Rattle.f3_heap_tests.specs.LiveOnce.{LiveOnce}
use Rattle.f3_heap_tests.proofs.Queue.{once-turn}
use Rattle.f3_heap_tests.proofs.turns.turn_front.Goals as goal

pub returns-clause-queue : goal.returns-clause-queue
returns-clause-queue g c =
    subst (λ (l : List ℕ). LiveOnce (g.B.Blocks.blocks c.args.heap.now) l) (sym c.in_ok-push_back.ensures.items)
    (once-turn (g.B.Blocks.blocks c.args.heap.now) c.in-Some.front c.pop_front.new.self.items (subst (λ (l : List ℕ). LiveOnce (g.B.Blocks.blocks c.args.heap.now) l) c.in-Some.ensures.items c.requires))
