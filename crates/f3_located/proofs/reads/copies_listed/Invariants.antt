use Rattle.std.proofs.Common.{◌≡◌, ◌≤◌, ◌++◌, drop, map, length, vec_len, vec_capacity}
use Rattle.std.specs.Prelude.{slice_index_or}
use Rattle.f3_meaning_whole.specs.Value as v
use Rattle.f3_data.specs.Values.{values_of}
use Rattle.f3_located.proofs.reads.copies_listed.Given as goal

abbrev pub invariant-loop-place : goal.invariant-loop-place
invariant-loop-place l =
    (values_of l.copies.items ++ map (λ n. slice_index_or (values_of l.values) n v.Unallocated) (drop l.place-index l.places)
    ≡ map (λ n. slice_index_or (values_of l.values) n v.Unallocated) l.places)
    × (vec_len l.copies ≡ l.place-index)
    × (length l.places ≤ vec_capacity l.copies)
