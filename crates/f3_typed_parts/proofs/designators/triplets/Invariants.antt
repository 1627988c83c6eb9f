use Rattle.std.proofs.Common.{◌≡◌, ◌+◌, ◌≤◌, drop, length, filter}
use Rattle.f3_kinds.specs.Designators.{is_triplet}
use Rattle.f3_typed_parts.proofs.designators.triplets.Given as goal

abbrev pub invariant-loop-one : goal.invariant-loop-one
invariant-loop-one l = (l.count + length (filter is_triplet (drop l.one-index l.given)) ≡ length (filter is_triplet l.given)) × (l.count ≤ l.one-index)
