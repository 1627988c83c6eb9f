use Rattle.std.proofs.Common.{◌≡◌, map, drop}
use Rattle.std.specs.List.{list_any}
use Rattle.f3_tree.specs.Declarations.{Placed, placed_view}
use Rattle.f3_type_rules.specs.Names.{is_allocatable}
use Rattle.f3_natures.proofs.objects.has_allocatable.Given as goal

abbrev pub invariant-loop-attribute : goal.invariant-loop-attribute
invariant-loop-attribute l =
    list_any is_allocatable (map (λ (p : Placed). p.attribute) (map placed_view (drop l.attribute-index l.list)))
    ≡ list_any is_allocatable (map (λ (p : Placed). p.attribute) (map placed_view l.list))
