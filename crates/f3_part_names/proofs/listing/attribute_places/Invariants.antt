use Rattle.std.proofs.Common.{◌≡◌, ◌++◌, map, drop}
use Rattle.std.specs.List.{flat_map}
use Rattle.f3_part_names.specs.Given.{access_place}
use Rattle.f3_tree.specs.Declarations.{placed_view}
use Rattle.f3_part_names.proofs.listing.attribute_places.Given as goal

abbrev pub invariant-loop-attribute : goal.invariant-loop-attribute
invariant-loop-attribute l = l.found.items ++ flat_map access_place (map placed_view (drop l.attribute-index l.list)) ≡ l.fn.found.items ++ flat_map access_place (map placed_view l.list)
