use Rattle.std.proofs.Common.{◌≡◌, ◌++◌, map, drop}
use Rattle.f3_part_names.specs.Given.{accesses_of}
use Rattle.f3_tree.specs.Declarations.{placed_view}
use Rattle.f3_part_names.proofs.listing.accesses_of.Given as goal

abbrev pub invariant-loop-attribute : goal.invariant-loop-attribute
invariant-loop-attribute l = l.found.items ++ accesses_of (map placed_view (drop l.attribute-index l.list)) ≡ accesses_of (map placed_view l.list)
