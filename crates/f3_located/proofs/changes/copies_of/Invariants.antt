use Rattle.std.proofs.Common.{◌≡◌, ◌≤◌, ◌+◌, ◌++◌, vec_len, vec_capacity}
use Rattle.std.specs.Prelude.{replicate}
use Rattle.f3_data.specs.Values.{value_of, values_of}
use Rattle.f3_located.proofs.changes.copies_of.Given as goal

abbrev pub invariant-loop-left : goal.invariant-loop-left
invariant-loop-left l =
    (values_of l.copies.items ++ replicate l.left (value_of l.value) ≡ replicate l.fn.count (value_of l.value))
    × (vec_len l.copies + l.left ≡ l.fn.count)
    × (l.fn.count ≤ vec_capacity l.copies)

abbrev pub decreases-loop-left : goal.decreases-loop-left
decreases-loop-left l = l.left
