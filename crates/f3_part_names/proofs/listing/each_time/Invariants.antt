use Rattle.std.proofs.Common.{◌≡◌, ◌++◌, drop}
use Rattle.f3_part_names.specs.Given.{each_time}
use Rattle.f3_part_names.proofs.listing.each_time.Given as goal

abbrev pub invariant-loop-access : goal.invariant-loop-access
invariant-loop-access l = l.found.items ++ each_time l.name (drop l.access-index l.accesses) ≡ l.fn.found.items ++ each_time l.name l.accesses
