-- The queue stays one of live blocks, each once.
use Rattle.std.proofs.Common.{ℕ, List, ◌∷◌, ◌++◌, [], sym, subst}
use Rattle.f3_live_blocks.specs.Blocks.{Live}
use Rattle.f3_heap_tests.specs.LiveOnce.{LiveOnce}
use Rattle.f3_heap_tests.proofs.Queue.{once-give, once-turn, once-rest}
use Rattle.f3_heap_tests.proofs.turns.give_front.Goals as goal

pub returns-in-Ok : goal.returns-in-Ok
returns-in-Ok g c = once-give (g.B.Blocks.blocks c.args.heap.now) (g.B.Blocks.blocks c.give.new.self) c.in-Some.block c.pop_front.new.self.items c.in-Ok.ensures.given (subst (λ (l : List ℕ). LiveOnce (g.B.Blocks.blocks c.args.heap.now) l) c.in-Some.ensures.items c.requires)

pub returns-in_err-push_back-in-Err : goal.returns-in_err-push_back-in-Err
returns-in_err-push_back-in-Err g c =
    subst (λ (l : List ℕ). LiveOnce (g.B.Blocks.blocks c.give.new.self) l) (sym c.in_err-push_back-in-Err.ensures.items)
    (subst (λ (m : Live). LiveOnce m c.pop_front.new.self.items) (sym c.in-Err.ensures.refused) (once-rest (g.B.Blocks.blocks c.args.heap.now) c.in-Some.block c.pop_front.new.self.items (subst (λ (l : List ℕ). LiveOnce (g.B.Blocks.blocks c.args.heap.now) l) c.in-Some.ensures.items c.requires)))

pub returns-in_ok-push_back-in-Err : goal.returns-in_ok-push_back-in-Err
returns-in_ok-push_back-in-Err g c =
    subst (λ (l : List ℕ). LiveOnce (g.B.Blocks.blocks c.give.new.self) l) (sym c.in_ok-push_back-in-Err.ensures.items)
    (subst (λ (m : Live). LiveOnce m (c.pop_front.new.self.items ++ c.in-Some.block ∷ [])) (sym c.in-Err.ensures.refused) (once-turn (g.B.Blocks.blocks c.args.heap.now) c.in-Some.block c.pop_front.new.self.items (subst (λ (l : List ℕ). LiveOnce (g.B.Blocks.blocks c.args.heap.now) l) c.in-Some.ensures.items c.requires)))
