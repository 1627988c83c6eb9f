use Rattle.std.proofs.Common.{refl, ◌∙◌, arith, List, map, None}
use Rattle.std.specs.List.{flat_map}
use Rattle.f3_tree.specs.declared.declaration.Attribute.{Attribute}
use Rattle.f3_tree.specs.Declarations.{Placed, placed_view}
use Rattle.f3_type_rules.specs.Names.{dimension_in}
use Rattle.f3_natures.specs.Objects.{extent}
use Rattle.f3_natures.proofs.Attributes.{last_of_map, last_done}
use Rattle.f3_natures.proofs.objects.dimension.Goals as goal

pub returns : goal.returns
returns c =
    last_done (λ (xs : List Attribute). map extent (flat_map dimension_in (map (λ (p : Placed). p.attribute) (map placed_view xs)))) c.args.list.now c.loop-attribute.attribute-index _ _ (omega (arith, c.loop-attribute-test.false)) refl c.loop-attribute.invariant
    ∙ last_of_map extent None (flat_map dimension_in (map (λ (p : Placed). p.attribute) (map placed_view c.args.list.now)))
