use Rattle.std.proofs.Common.{◌≡◌, ◌++◌, map, drop}
use Rattle.std.specs.List.{flat_map}
use Rattle.f3_tree.specs.Declarations.{bounds_view}
use Rattle.f3_part_names.specs.Names.{named_bounds}
use Rattle.f3_part_names.proofs.naming.bounds.Given as goal

abbrev pub invariant-loop-lower : goal.invariant-loop-lower
invariant-loop-lower l = l.names.items ++ flat_map named_bounds (map bounds_view (drop l.lower-index l.list)) ≡ l.fn.names.items ++ flat_map named_bounds (map bounds_view l.list)
