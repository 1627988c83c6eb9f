use Rattle.std.proofs.Common.{◌≡◌, ◌++◌, map, drop}
use Rattle.std.specs.List.{flat_map}
use Rattle.f3_tree.specs.Declarations.{specification_view}
use Rattle.f3_part_names.specs.Names.{named_specification}
use Rattle.f3_part_names.proofs.naming.specifications.Given as goal

abbrev pub invariant-loop-one : goal.invariant-loop-one
invariant-loop-one l = l.names.items ++ flat_map named_specification (map specification_view (drop l.one-index l.list)) ≡ l.fn.names.items ++ flat_map named_specification (map specification_view l.list)
