-- Laws of the heap in one region of words (own rule).
use Rattle.std.specs.Prelude.{ℕ, ℤ, pos, ◌≡◌, ◌+◌, ◌-◌, List, [], ◌∷◌, ◌++◌, map, get_or}
use Rattle.f3_heap_laws.specs.Gaps.{gaps, places}
use Rattle.f3_heap_laws.specs.Placed.{extent}
use Rattle.f3_heap_laws.specs.Segments.{Segment, Free, seg_block, seg_size, segments, live_segments, free_size_of, IsHeap}
use Rattle.f3_heap_laws.specs.FreeRuns.{free_runs}
use Rattle.f3_heap_laws.specs.Answers.{Memory, Take, Sizes, Allowed}
use Rattle.f3_heap_laws.specs.Rules.{raw_allows}

-- each free block as a run, and then the words from `end` up to the size, are the gaps
abbrev pub FreeRunsAreGaps : Type 0
FreeRunsAreGaps = (ws : List ℤ) (room size first end used : ℕ) → IsHeap ws room size first end used
    → free_runs 0 (segments ws end) (size - end) ≡ gaps (places (live_segments (segments ws end))) size

-- a free block lies behind the segments before it
abbrev pub FreeBlocksTellTheirSize : Type 0
FreeBlocksTellTheirSize = (ws : List ℤ) (room size first end used : ℕ) → IsHeap ws room size first end used
    → (front : List Segment) (junk : List ℤ) (back : List Segment) → segments ws end ≡ front ++ Free junk ∷ back
    → (at n : ℕ) → at ≡ extent seg_block seg_size front → n ≡ seg_size (Free junk)
    → (free_size_of (get_or ws at (pos 0)) ≡ n) × (free_size_of (get_or ws (at + (n - 1)) (pos 0)) ≡ n)

-- two lists of takes that ask for the same words and have answers that are allowed are one list
abbrev pub AnswersAreOne : Type 0
AnswersAreOne = (size : ℕ) (m : Sizes) (ks ls : List Take) → map (λ (k : Take). k.asked) ks ≡ map (λ (k : Take). k.asked) ls
    → Allowed raw_allows (λ n. n) size m ks → Allowed raw_allows (λ n. n) size m ls → ks ≡ ls

-- no takes in turn end in want of memory
abbrev pub NeverWantsMemory : Type 0
NeverWantsMemory = (size : ℕ) (m : Sizes) (ks : List Take) (w : ℕ)
    → Allowed raw_allows (λ n. n) size m (ks ++ record { asked = w; answer = Memory } ∷ []) → ⊥
