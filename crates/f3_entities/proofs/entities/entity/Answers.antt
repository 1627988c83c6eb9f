use Rattle.std.proofs.Common.{◌≡◌, ap, sym, ◌∙◌, ℕ, not, ◌&&◌, ◌||◌, List, Option, subst}
use Rattle.std.specs.Option.{option_map}
use Rattle.f3_rules.specs.declared.rule.Rule.TheVariants.{T1, T5}
use Rattle.f3_tree.specs.Declarations.{ShapeTree, DeclarationTree, EntityTree, entity_view}
use Rattle.f3_kinds.specs.declared.types.Object.{Object}
use Rattle.f3_kinds.specs.Rows.{at_name, unless}
use Rattle.f3_kinds.specs.Things.{Context}
use Rattle.f3_typed_parts.specs.Known.{context_of}
use Rattle.f3_typed_parts.specs.Noted.{noted}
use Rattle.f3_type_rules.specs.Attributes.{conflicts}
use Rattle.f3_type_rules.specs.Names.{dimensions, shape_of}
use Rattle.f3_type_rules.specs.Shapes.{elements, at_most, are_dimensions_small, cells_of}
use Rattle.f3_type_rules.specs.Walks.{Spot, is_among}
use Rattle.f3_declared.specs.Declarations.{tree_of}
use Rattle.f3_declared.specs.Spots.{spot_in}
use Rattle.f3_extents.specs.Cells.{HasCells}
use Rattle.f3_extents.specs.Counts.{counted}
use Rattle.f3_extents.specs.declared.sizes.Extents.{Extents}
use Rattle.f3_entities.specs.Growth.{position_of}
use Rattle.f3_entities.proofs.Standing.{four_noted, rows_here}
use Rattle.f3_entities.proofs.entities.entity.Goals as goal

pub returns : goal.returns
returns c = λ s k h.
    let here : Context = context_of c.args.growth.now.known (position_of c.args.spot.now) in
    let spot : Spot = spot_in s c.args.spot.now in
    let d : DeclarationTree = tree_of c.args.reading.now in
    let x : EntityTree = entity_view c.args.entity.now in
    let o : Object = c.object_of-object.result in
    let n : Option ℕ = elements here (shape_of (d, x)) in
    let count : c.extents_by-extents.result.elements ≡ counted n = ap (λ (z : Extents). z.elements) c.extents_by-extents.ensures in
    let small : c.extents_by-extents.result.are_small ≡ are_dimensions_small here (shape_of (d, x)) = ap (λ (z : Extents). z.are_small) c.extents_by-extents.ensures in
    let cells : HasCells c.deref.result.now k = subst (λ (xs : List (Option ℕ)). HasCells xs k) (sym c.deref.ensures.value) h.cells in
    four_noted c.args.first.now c.own_shape.new.first c.unless.new.first c.size.new.first c.initial.new.first _
    (unless (not (conflicts spot (d, x))) (at_name 5 T1 c.args.entity.now.name))
    (unless (at_most 7 (option_map dimensions (shape_of (d, x))) && (is_among spot.dummies x || (at_most 16777216 (cells_of k o n) && are_dimensions_small here (shape_of (d, x))))) (at_name 5 T5 c.args.entity.now.name)) _
    c.in_ok-own_shape.ensures
    (c.unless.ensures
    ∙ ap (λ b. noted c.own_shape.new.first (unless (not c.conflicts-conflict.result) b)) c.at_name.ensures
    ∙ ap (λ z. noted c.own_shape.new.first (unless (not z) (at_name 5 T1 c.args.entity.now.name))) (c.conflicts-conflict.ensures s))
    (c.size.ensures (cells_of k o n) (c.cells_of-cells.ensures k n cells count)
    ∙ ap (λ (z : Option ShapeTree). noted c.unless.new.first (unless (at_most 7 (option_map dimensions z) && (c.is_dummy-dummy.result || (at_most 16777216 (cells_of k o n) && c.extents_by-extents.result.are_small))) (at_name 5 T5 c.args.entity.now.name))) c.shape_of-shape.ensures
    ∙ ap (λ z. noted c.unless.new.first (unless (at_most 7 (option_map dimensions (shape_of (d, x))) && (z || (at_most 16777216 (cells_of k o n) && c.extents_by-extents.result.are_small))) (at_name 5 T5 c.args.entity.now.name))) (c.is_dummy-dummy.ensures s)
    ∙ ap (λ z. noted c.unless.new.first (unless (at_most 7 (option_map dimensions (shape_of (d, x))) && (is_among spot.dummies x || (at_most 16777216 (cells_of k o n) && z))) (at_name 5 T5 c.args.entity.now.name))) small)
    (c.in_ok-initial.ensures n count)
    ∙ ap (noted c.args.first.now) (rows_here s c.args.growth.now k c.args.spot.now d x o h c.object_of-object.ensures)
