-- The queue stays one of live blocks, each once.
use Rattle.std.proofs.Common.{ℕ, List, sym, subst}
use Rattle.f3_heap_tests.specs.LiveOnce.{LiveOnce}
use Rattle.f3_heap_tests.proofs.Queue.{once-take, once-more}
use Rattle.f3_heap_tests.proofs.turns.take_back.Goals as goal

pub returns-in_err-push_back-in-Ok : goal.returns-in_err-push_back-in-Ok
returns-in_err-push_back-in-Ok g c =
    subst (λ (l : List ℕ). LiveOnce (g.B.Blocks.blocks c.take.new.self) l) (sym c.in_err-push_back-in-Ok.ensures.items)
    (once-more (g.B.Blocks.blocks c.args.heap.now) (g.B.Blocks.blocks c.take.new.self) c.in-Ok.block _ c.args.queue.now.items c.in-Ok.ensures.taken c.requires)

pub returns-in_ok-push_back-in-Ok : goal.returns-in_ok-push_back-in-Ok
returns-in_ok-push_back-in-Ok g c =
    subst (λ (l : List ℕ). LiveOnce (g.B.Blocks.blocks c.take.new.self) l) (sym c.in_ok-push_back-in-Ok.ensures.items)
    (once-take (g.B.Blocks.blocks c.args.heap.now) (g.B.Blocks.blocks c.take.new.self) c.in-Ok.block _ c.args.queue.now.items c.in-Ok.ensures.fresh c.in-Ok.ensures.taken c.requires)
