-- What is said of a declaration before its names.
use Rattle.std.proofs.Common.{◌≡◌, ℕ, true, not, ◌||◌, nat_lt, ◌==◌, slice_get, List, ◌++◌, map, Option, Some, None, refl, ap, sym, ◌∙◌}
use Rattle.std.specs.List.{flat_map}
use Rattle.f3_rules.specs.declared.breaks.Break.{Break}
use Rattle.f3_rules.specs.declared.rule.Rule.TheVariants.{T3}
use Rattle.f3_tree.specs.declared.declaration.Attribute.{Attribute}
use Rattle.f3_tree.specs.declared.declaration.TypeSpecifier.{TypeSpecifier}
use Rattle.f3_tree.specs.declared.declaration.TypeSpecifier.TheVariants as specifier
use Rattle.f3_tree.specs.declared.expression.Name.{Name}
use Rattle.f3_tree.specs.Declarations.{AttributeTree, Placed, attribute_view, placed_view}
use Rattle.f3_kinds.specs.declared.types.DataType.{DataType}
use Rattle.f3_kinds.specs.declared.types.DataType.TheVariants.{Integer, Logical, Derived}
use Rattle.f3_kinds.specs.Things.{map_or, Context}
use Rattle.f3_typed_parts.specs.Known.{context_of}
use Rattle.f3_typed_parts.specs.Noted.{noted}
use Rattle.f3_typed_parts.proofs.Noting.{noted_more}
use Rattle.f3_kinds.specs.Rows.{at_name, unless}
use Rattle.f3_type_rules.specs.declared.definition.Holder.{Holder}
use Rattle.f3_type_rules.specs.Declarations.{type_rows, specifier_rows}
use Rattle.f3_type_rules.specs.Names.{type_of}
use Rattle.f3_type_rules.specs.Scene.{Scene}
use Rattle.f3_type_rules.specs.Walks.{Known, Spot, context}
use Rattle.f3_type_rules.specs.Shapes.{dimension_rows}
use Rattle.f3_declared.specs.declared.spots.Spot.{Spot as Standpoint}
use Rattle.f3_declared.specs.Next.{before_entity}
use Rattle.f3_declared.specs.Scenery.{scene_in}
use Rattle.f3_declared.specs.Spots.{spot_in}
use Rattle.f3_extents.proofs.Shaping.{flat_map_map}
use Rattle.f3_entities.specs.declared.growth.Growth.{Growth}
use Rattle.f3_entities.specs.Growth.{Stands, position_of}
use Rattle.f3_entities.proofs.Standing.{context_same}

type_next : (s : Spot) (k j : Known) (n : Name) (t : Option DataType) → k.next ≡ j.next → type_rows s k n t ≡ type_rows s j n t
type_next s k j n (Some (Derived e)) h =
    ap (λ (m : ℕ). unless (map_or true (λ (x : Holder). not (x.scope == s.scope) || nat_lt e m) (slice_get (s.scene).holders e)) (at_name 5 T3 n)) h
type_next s k j n (Some (Integer i)) h = refl
type_next s k j n (Some Logical) h = refl
type_next s k j n None h = refl

pub specifier_next : (s : Spot) (k j : Known) (t : TypeSpecifier) → k.next ≡ j.next → specifier_rows s k t ≡ specifier_rows s j t
specifier_next s k j (specifier.Derived n) h = type_next s k j n (type_of (s.scene).names s.scope (specifier.Derived n)) h
specifier_next s k j (specifier.Integer i) h = refl
specifier_next s k j specifier.Logical h = refl

-- the type of a declaration, by what is known
pub specifier_here : (s : Scene) (g : Growth) (k : Known) (spot : Standpoint) (t : TypeSpecifier) → Stands s g k
    → specifier_rows (spot_in (scene_in g.known g.scenery) spot) (before_entity g.next) t ≡ specifier_rows (spot_in s spot) k t
specifier_here s g k spot t h =
    ap (λ (z : Scene). specifier_rows (spot_in z spot) (before_entity g.next) t) (sym h.scene) ∙ specifier_next (spot_in s spot) (before_entity g.next) k t h.next

-- attributes at their places
pub attributes_rows : (f : AttributeTree → List Break) (xs : List Attribute)
    → flat_map (λ (a : Attribute). f (attribute_view a.kind)) xs ≡ flat_map f (map (λ (p : Placed). p.attribute) (map placed_view xs))
attributes_rows f xs = flat_map_map (λ (p : Placed). f p.attribute) placed_view xs ∙ flat_map_map f (λ (p : Placed). p.attribute) (map placed_view xs)

-- three rules, one after the other
pub three_noted : (f g h i : Option Break) (a b c : List Break) → g ≡ noted f a → h ≡ noted g b → i ≡ noted h c → i ≡ noted f (a ++ (b ++ c))
three_noted f g h i a b c p q r =
    r ∙ ap (λ z. noted z c) q ∙ noted_more g b c ∙ ap (λ z. noted z (b ++ c)) p ∙ noted_more f a (b ++ c)

-- the bounds that DIMENSION gives, by what is known
pub dimensions_here : (s : Scene) (g : Growth) (k : Known) (spot : Standpoint) (xs : List Attribute) → Stands s g k
    → flat_map (λ (a : Attribute). dimension_rows (context_of g.known (position_of spot)) (attribute_view a.kind)) xs
    ≡ flat_map (dimension_rows (context (spot_in s spot) k)) (map (λ (p : Placed). p.attribute) (map placed_view xs))
dimensions_here s g k spot xs h =
    attributes_rows (dimension_rows (context_of g.known (position_of spot))) xs
    ∙ ap (λ (c : Context). flat_map (dimension_rows c) (map (λ (p : Placed). p.attribute) (map placed_view xs))) (sym (context_same s g k spot h))
