use Rattle.std.proofs.Common.{arith, ap, ◌∙◌, ℕ, List, Some, Option, map}
use Rattle.std.proofs.lemmas.List.{take_all}
use Rattle.f3_tree.specs.declared.expression.Expression.{Expression}
use Rattle.f3_tree.specs.Declarations.{bounds_view}
use Rattle.f3_typed_parts.specs.Known.{context_of}
use Rattle.f3_type_rules.specs.Shapes.{product, bounds_extent}
use Rattle.f3_extents.specs.Counts.{counted}
use Rattle.f3_extents.proofs.Shaping.{product_more}
use Rattle.f3_extents.proofs.sizes.product.Goals as goal

pub loop-bounds-preserved : goal.loop-bounds-preserved
loop-bounds-preserved c =
    let f : Option Expression × Expression → Option ℕ = λ b. bounds_extent (context_of c.args.known.now c.args.at) (bounds_view b) in
    c.multiplied-elements.ensures _ _ c.loop-bounds.invariant c.bounds_extent.ensures
    ∙ ap counted (product_more (Some 1) f c.args.list.now c.loop-bounds.bounds-index c.bounds-item.result c.loop-bounds-test.true c.bounds-item.is)

pub returns : goal.returns
returns c =
    let f : Option Expression × Expression → Option ℕ = λ b. bounds_extent (context_of c.args.known.now c.args.at) (bounds_view b) in
    c.loop-bounds.invariant ∙ ap (λ (ys : List (Option Expression × Expression)). counted (product (Some 1) (map f ys))) (take_all c.loop-bounds.bounds-index c.args.list.now (omega (arith, c.loop-bounds-test.false)))
