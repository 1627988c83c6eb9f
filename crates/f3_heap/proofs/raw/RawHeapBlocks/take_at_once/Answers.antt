-- The block is the first gap's.
use Rattle.std.proofs.Common.{◌≡◌, ◌∙◌, ℕ, ap, sym, subst}
use Rattle.std.specs.Prelude.{Option, IfSome}
use Rattle.f3_heap.specs.declared.arena.Book.{Book}
use Rattle.f3_live_blocks.specs.Blocks.{Heap}
use Rattle.f3_heap_laws.specs.Answers.{Taken, sizes}
use Rattle.f3_heap_laws.specs.Rules.{raw_allows}
use Rattle.f3_heap_laws.proofs.Refusals.{raw_taken}
use Rattle.f3_heap.specs.Arena.{live_in}
use Rattle.f3_heap.proofs.raw.RawHeapBlocks.take_at_once.Goals as goal
use Rattle.f3_heap.proofs.raw.RawHeapBlocks.take_at_once.Goals.{in-Some, in-None}

pub returns-clause-allowed : goal.returns-clause-allowed
returns-clause-allowed c =
    let A : Option ℕ → Type 0 = λ x. IfSome x (λ b. raw_allows c.args.self.now.size (sizes c.args.self.now.blocks) c.args.words (Taken b)) in
    let heap_of : Book → Heap = λ b. record { blocks = live_in c.self.inside.arena.region b; size = b.size } in
    let is : heap_of c.deref_mut.result.now ≡ c.args.self.now = ap heap_of c.deref_mut.ensures.value ∙ c.self.view_is in
    elim c.match-take_last.branch [
      | in-Some w ↦
          let P : Heap → Type 0 = λ h. raw_allows h.size (sizes h.blocks) c.args.words (Taken w.at.result) in
          subst A (sym w.result-is) (subst P is (raw_taken _ _ c.args.words w.in-Some.at w.at.result w.at.ensures w.in-Some.ensures.first))
      | in-None w ↦ subst A (sym w.result-is) tt
    ]
