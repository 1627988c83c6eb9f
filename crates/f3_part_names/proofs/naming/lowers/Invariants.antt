use Rattle.std.proofs.Common.{◌≡◌, ◌++◌, map, drop}
use Rattle.std.specs.List.{flat_map}
use Rattle.f3_part_names.specs.Names.{named_in, lower_view}
use Rattle.f3_part_names.proofs.naming.lowers.Given as goal

abbrev pub invariant-loop-lower : goal.invariant-loop-lower
invariant-loop-lower l = l.names.items ++ flat_map named_in (map lower_view (drop l.lower-index l.list)) ≡ l.fn.names.items ++ flat_map named_in (map lower_view l.list)
