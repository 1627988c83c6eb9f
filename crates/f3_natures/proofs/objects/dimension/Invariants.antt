use Rattle.std.proofs.Common.{◌≡◌, None, map, drop}
use Rattle.std.specs.List.{flat_map}
use Rattle.f3_tree.specs.Declarations.{Placed, placed_view}
use Rattle.f3_type_rules.specs.Names.{dimension_in, last_of}
use Rattle.f3_natures.specs.Objects.{extent}
use Rattle.f3_natures.proofs.objects.dimension.Given as goal

abbrev pub invariant-loop-attribute : goal.invariant-loop-attribute
invariant-loop-attribute l =
    last_of l.last (map extent (flat_map dimension_in (map (λ (p : Placed). p.attribute) (map placed_view (drop l.attribute-index l.list)))))
    ≡ last_of None (map extent (flat_map dimension_in (map (λ (p : Placed). p.attribute) (map placed_view l.list))))
