use Rattle.std.proofs.Common.{◌≡◌, ◌≤◌, ◌++◌, drop, map, vec_len, vec_capacity}
use Rattle.std.specs.Prelude.{slice_index_or}
use Rattle.f3_meaning_whole.specs.Value as v
use Rattle.f3_data.specs.Values.{values_of}
use Rattle.f3_data.specs.References.{counted}
use Rattle.f3_located.proofs.reads.copies_of_first.Given as goal

abbrev pub invariant-loop-place : goal.invariant-loop-place
invariant-loop-place l =
    (values_of l.copies.items ++ map (λ n. slice_index_or (values_of l.values) n v.Unallocated) (drop l.place (counted 0 l.count))
    ≡ map (λ n. slice_index_or (values_of l.values) n v.Unallocated) (counted 0 l.count))
    × (vec_len l.copies ≡ l.place)
    × (l.count ≤ vec_capacity l.copies)
