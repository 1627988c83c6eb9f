-- What is known where a declaration stands.
use Rattle.std.proofs.Common.{◌≡◌, not, ◌&&◌, ◌||◌, List, [], ◌++◌, Option, refl, ap, sym, ◌∙◌}
use Rattle.std.specs.Option.{option_map}
use Rattle.f3_rules.specs.declared.breaks.Break.{Break}
use Rattle.f3_rules.specs.declared.rule.Rule.TheVariants.{T1, T5}
use Rattle.f3_tree.specs.Expressions.{Tree}
use Rattle.f3_tree.specs.Declarations.{DeclarationTree, EntityTree}
use Rattle.f3_kinds.specs.declared.types.Object.{Object}
use Rattle.f3_kinds.specs.Rows.{at_name, unless}
use Rattle.f3_typed_parts.specs.Noted.{noted}
use Rattle.f3_typed_parts.proofs.Noting.{noted_more}
use Rattle.f3_type_rules.specs.Attributes.{conflicts}
use Rattle.f3_type_rules.specs.Constants.{constant_rows}
use Rattle.f3_type_rules.specs.Declarations.{entity_rows}
use Rattle.f3_type_rules.specs.Names.{Declared, dimensions, shape_of, object_of}
use Rattle.f3_type_rules.specs.Shapes.{shape_rows, elements, at_most, are_dimensions_small, cells_of, initial_right}
use Rattle.std.proofs.lemmas.Option.{slice_get-map}
use Rattle.f3_kinds.specs.Things.{map_or, Context}
use Rattle.f3_typed_parts.specs.Known.{nature_of, context_of}
use Rattle.f3_type_rules.specs.Scene.{Scene}
use Rattle.f3_type_rules.specs.Walks.{Known, Spot, context, is_among}
use Rattle.f3_declared.specs.declared.spots.Spot.{Spot as Standpoint}
use Rattle.f3_declared.specs.Scenery.{names_in, scene_in}
use Rattle.f3_declared.specs.Spots.{spot_in}
use Rattle.f3_entities.specs.declared.growth.Growth.{Growth}
use Rattle.f3_entities.specs.Growth.{Stands, position_of}

pub context_same : (s : Scene) (g : Growth) (k : Known) (spot : Standpoint) → Stands s g k → context (spot_in s spot) k ≡ context_of g.known (position_of spot)
context_same s g k spot h =
    let p : context (spot_in (scene_in g.known g.scenery) spot) k ≡ context_of g.known (position_of spot) = λ i. record {
      unit = spot.unit;
      scope = spot.scope;
      phase = 5;
      look = (context_of g.known (position_of spot)).look;
      intrinsic = (context_of g.known (position_of spot)).intrinsic;
      moving = (context_of g.known (position_of spot)).moving;
      nature = λ e. slice_get-map nature_of g.known.things.items e i;
      value = λ e. sym (h.values e) i;
    } in
    ap (λ (z : Scene). context (spot_in z spot) k) h.scene ∙ p

-- four rules, one after the other
pub four_noted : (f g h i j : Option Break) (a b c d : List Break) → g ≡ noted f a → h ≡ noted g b → i ≡ noted h c → j ≡ noted i d → j ≡ noted f (a ++ (b ++ (c ++ d)))
four_noted f g h i j a b c d p q r t =
    t ∙ ap (λ z. noted z d) r ∙ noted_more h c d ∙ ap (λ z. noted z (c ++ d)) q ∙ noted_more g b (c ++ d) ∙ ap (λ z. noted z (b ++ (c ++ d))) p ∙ noted_more f a (b ++ (c ++ d))

-- the rules on a declared name, by what its declaration makes of it
abbrev pub rows_by : Context → Object → Spot → Known → Declared → List Break
rows_by c o s k x =
    shape_rows c (x.1).shape
    ++ (unless (not (conflicts s x)) (at_name 5 T1 (x.1).name)
    ++ (unless (at_most 7 (option_map dimensions (shape_of x)) && (is_among s.dummies x.1 || (at_most 16777216 (cells_of k o (elements c (shape_of x))) && are_dimensions_small c (shape_of x)))) (at_name 5 T5 (x.1).name)
    ++ map_or [] (λ (e : Tree). constant_rows 5 c (initial_right c o.data_type o.rank (elements c (shape_of x)) e) e) (x.1).initial))

pub rows_same : (s : Spot) (d : DeclarationTree) (k : Known) (x : EntityTree) → entity_rows s d k x ≡ rows_by (context s k) (object_of (s.scene).names s.scope (d, x)) s k (d, x)
rows_same s d k x = refl

pub rows_here : (s : Scene) (g : Growth) (k : Known) (spot : Standpoint) (d : DeclarationTree) (x : EntityTree) (o : Object) → Stands s g k
    → o ≡ object_of (names_in g.known g.scenery) spot.scope (d, x)
    → rows_by (context_of g.known (position_of spot)) o (spot_in s spot) k (d, x) ≡ entity_rows (spot_in s spot) d k x
rows_here s g k spot d x o h e =
    ap (λ z. rows_by (context_of g.known (position_of spot)) z (spot_in s spot) k (d, x)) (e ∙ ap (λ (z : Scene). object_of z.names spot.scope (d, x)) (sym h.scene))
    ∙ ap (λ z. rows_by z (object_of s.names spot.scope (d, x)) (spot_in s spot) k (d, x)) (sym (context_same s g k spot h))
    ∙ sym (rows_same (spot_in s spot) d k x)
