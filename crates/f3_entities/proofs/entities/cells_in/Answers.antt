use Rattle.std.proofs.Common.{◌≡◌, ap, sym, ◌∙◌, ℕ, List, Option, subst}
use Rattle.f3_tree.specs.Declarations.{DeclarationTree, EntityTree, entity_view}
use Rattle.f3_kinds.specs.declared.types.Object.{Object}
use Rattle.f3_kinds.specs.Things.{Context}
use Rattle.f3_typed_parts.specs.Known.{context_of}
use Rattle.f3_type_rules.specs.Names.{shape_of, object_of}
use Rattle.f3_type_rules.specs.Scene.{Scene}
use Rattle.f3_type_rules.specs.Shapes.{elements, cells_of}
use Rattle.f3_declared.specs.Declarations.{tree_of}
use Rattle.f3_extents.specs.Cells.{HasCells}
use Rattle.f3_extents.specs.Counts.{counted}
use Rattle.f3_extents.specs.declared.sizes.Extents.{Extents}
use Rattle.f3_entities.specs.Growth.{position_of}
use Rattle.f3_entities.proofs.Standing.{context_same}
use Rattle.f3_entities.proofs.entities.cells_in.Goals as goal

pub returns : goal.returns
returns c = λ s k h.
    let here : Context = context_of c.args.growth.now.known (position_of c.args.spot.now) in
    let d : DeclarationTree = tree_of c.args.reading.now in
    let x : EntityTree = entity_view c.args.entity.now in
    let n : Option ℕ = elements here (shape_of (d, x)) in
    let count : c.extents_by-extents.result.elements ≡ counted n = ap (λ (z : Extents). z.elements) c.extents_by-extents.ensures in
    let cells : HasCells c.deref.result.now k = subst (λ (xs : List (Option ℕ)). HasCells xs k) (sym c.deref.ensures.value) h.cells in
    c.cells_of.ensures k n cells count
    ∙ ap (λ (o : Object). counted (cells_of k o n)) (c.object_of-object.ensures ∙ ap (λ (z : Scene). object_of z.names c.args.spot.now.scope (d, x)) (sym h.scene))
    ∙ ap (λ (z : Context). counted (cells_of k (object_of s.names c.args.spot.now.scope (d, x)) (elements z (shape_of (d, x))))) (sym (context_same s c.args.growth.now k c.args.spot.now h))
