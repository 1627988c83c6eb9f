use Rattle.std.proofs.Common.{◌≡◌, ◌≤◌, take, length, vec_len, vec_capacity}
use Rattle.f3_data.specs.Values.{values_of}
use Rattle.f3_data.proofs.copies.+copying.Given as goal

abbrev pub invariant-values-loop-original : goal.invariant-values-loop-original
invariant-values-loop-original l =
    (values_of l.copies.items ≡ values_of (take l.original-index l.originals))
    × (vec_len l.copies ≡ l.original-index)
    × (length l.originals ≤ vec_capacity l.copies)
