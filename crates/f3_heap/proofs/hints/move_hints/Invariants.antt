-- The hints below i are moved, the others stand.
use Rattle.std.proofs.Common.{ℕ, ◌≡◌, ◌<◌, ◌≤◌, length, get_or}
use Rattle.f3_heap_laws.specs.Hints.{classes, moved}
use Rattle.f3_heap.proofs.hints.move_hints.Given as goal

abbrev pub invariant-loop-i : goal.invariant-loop-i
invariant-loop-i l =
    (length l.hints ≡ classes)
    × ((k : ℕ) → k < l.i → get_or l.hints k 0 ≡ moved l.from l.until l.to (get_or l.initial.hints k 0))
    × ((k : ℕ) → l.i ≤ k → get_or l.hints k 0 ≡ get_or l.initial.hints k 0)
