-- Where a width has no hint, no free block is as wide.
use Rattle.std.proofs.Common.{◌≡◌, ◌<◌, ◌≤◌, ℕ, slice_index_or, subst, refl}
use Rattle.f3_raw.specs.Region.{region_words}
use Rattle.f3_heap_laws.specs.Segments.{NoneFits}
use Rattle.f3_heap_laws.specs.Hints.{HintFrom, classes, width}
use Rattle.f3_heap_laws.proofs.BlockReads.{search-none}
use Rattle.f3_heap_laws.proofs.HintLaws.{hint-searches, hint-wider}
use Rattle.f3_raw.specs.declared.region.Region.{Region}
use Rattle.f3_heap.specs.declared.arena.Book.{Book}
use Rattle.f3_heap.specs.Arena.{IsArena, segments_in}

pub none_fits : (a : Region) (b : Book) (k n : ℕ) → IsArena a b → k < classes → width k ≤ n → slice_index_or b.hints k 0 ≡ b.size → NoneFits n (segments_in a b)
none_fits a b k n h within wide none =
    let segs = segments_in a b in
    let hint : HintFrom b.size (width k) b.size 0 segs = subst (λ (at : ℕ). HintFrom b.size (width k) at 0 segs) none (h.hints k within) in
    let wider : HintFrom b.size n b.size 0 segs = hint-wider b.size (width k) n b.size 0 segs wide hint in
    search-none b.size n segs (region_words a) b.first b.end b.size h.heap.lays h.heap.within (hint-searches b.size n b.size segs wider) refl
