use Rattle.std.proofs.Common.{◌≡◌, ◌++◌, map, drop}
use Rattle.std.specs.List.{flat_map}
use Rattle.f3_part_names.specs.Given.{given_in}
use Rattle.f3_tree.specs.Declarations.{specification_view}
use Rattle.f3_part_names.proofs.listing.given.Given as goal

abbrev pub invariant-loop-specification : goal.invariant-loop-specification
invariant-loop-specification l = l.found.items ++ flat_map given_in (map specification_view (drop l.specification-index l.list)) ≡ flat_map given_in (map specification_view l.list)
