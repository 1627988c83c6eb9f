-- No block yet.
use Rattle.std.proofs.Common.{◌<◌, ◌*◌, ◌/◌, ◌^◌, ◌∙◌, replicate, ap, sym, subst, arith}
use Rattle.f3_raw.specs.Region.{region_words, region_size}
use Rattle.f3_live_blocks.specs.Blocks.{Heap}
use Rattle.f3_heap_laws.proofs.RawWrites.{new-heap, new-view}
use Rattle.f3_heap_laws.proofs.HintHeaps.{new-hints}
use Rattle.std.proofs.lemmas.List.{get_or-replicate}
use native.Mathlib.Decide.{dec_lt}
use Prim.{yes, no}
use Rattle.f3_heap.specs.declared.arena.Book.{Book}
use Rattle.f3_heap.specs.Arena.{IsArena, live_in}
use Rattle.f3_heap.proofs.raw.RawHeap.new.Goals as goal

pub invariant_of-result : goal.invariant_of-result
invariant_of-result c =
    let small : c.args.words / 4 * 4 * 8 < 2 ^ 63 = elim (dec_lt (c.args.words / 4 * 4 * 8) (2 ^ 63)) [ yes l ↦ l | no k ↦ absurd (let z = c.in_ok-region.ensures.too_large (omega arith) in cc) ] in
    subst (λ (b : Book). IsArena c.in_ok-region.region b) (sym c.in_ok-book.ensures.ok) (record {
      heap = new-heap (region_words c.in_ok-region.region) (region_size c.in_ok-region.region) (c.args.words / 4 * 4) c.in_ok-region.ensures.words (omega arith) (let e = c.in_ok-region.ensures.size in omega arith) (omega arith);
      hints = new-hints (region_words c.in_ok-region.region) (c.args.words / 4 * 4) (replicate 32 (c.args.words / 4 * 4)) (λ i lt. get_or-replicate 32 i (c.args.words / 4 * 4) 0 lt);
      room = c.in_ok-region.ensures.size;
    })

pub returns : goal.returns
returns c =
    let heap_of : Book → Heap = λ b. record { blocks = live_in c.in_ok-region.region b; size = b.size } in
    ap heap_of c.in_ok-book.ensures.ok ∙ (λ i. record { blocks = new-view (region_words c.in_ok-region.region) (c.args.words / 4 * 4) i; size = c.args.words / 4 * 4 })
