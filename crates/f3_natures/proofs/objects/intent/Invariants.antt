use Rattle.std.proofs.Common.{◌≡◌, None, map, drop}
use Rattle.std.specs.List.{flat_map}
use Rattle.f3_scopes.specs.Scopes.{intent_of}
use Rattle.f3_tree.specs.Declarations.{Placed, placed_view}
use Rattle.f3_type_rules.specs.Names.{last_of}
use Rattle.f3_natures.proofs.objects.intent.Given as goal

abbrev pub invariant-loop-attribute : goal.invariant-loop-attribute
invariant-loop-attribute l =
    last_of l.last (flat_map intent_of (map (λ (p : Placed). p.attribute) (map placed_view (drop l.attribute-index l.list))))
    ≡ last_of None (flat_map intent_of (map (λ (p : Placed). p.attribute) (map placed_view l.list)))
