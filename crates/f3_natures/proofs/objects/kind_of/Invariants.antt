use Rattle.std.proofs.Common.{◌≡◌, map, drop}
use Rattle.std.specs.List.{list_any}
use Rattle.f3_scopes.specs.Scopes.{is_parameter}
use Rattle.f3_tree.specs.Declarations.{placed_view}
use Rattle.f3_natures.proofs.objects.kind_of.Given as goal

abbrev pub invariant-loop-attribute : goal.invariant-loop-attribute
invariant-loop-attribute l = list_any (λ p. is_parameter p.attribute) (map placed_view (drop l.attribute-index l.list)) ≡ list_any (λ p. is_parameter p.attribute) (map placed_view l.list)
