use Rattle.std.proofs.Common.{refl, arith, rules, Option}
use Rattle.std.specs.List.{flat_map}
use Rattle.f3_tree.specs.declared.expression.Expression.{Expression}
use Rattle.f3_tree.specs.Declarations.{bounds_view}
use Rattle.f3_typed_parts.specs.Known.{context_of}
use Rattle.f3_typed_parts.proofs.Noting.{item_step, noted_done}
use Rattle.f3_extents.specs.Inner.Bounds.{rows_of_bounds}
use Rattle.f3_extents.proofs.bounds.explicit.Goals as goal

pub loop-bounds-preserved : goal.loop-bounds-preserved
loop-bounds-preserved c =
    item_step (λ (b : Option Expression × Expression). rows_of_bounds (context_of c.args.known.now c.args.at) (bounds_view b))
    c.args.list.now c.loop-bounds.bounds-index c.bounds-item.result c.loop-bounds.first c.both_bounds.new.first _ c.loop-bounds-test.true c.bounds-item.is (search rules) c.loop-bounds.invariant

pub returns : goal.returns
returns c =
    noted_done (flat_map (λ (b : Option Expression × Expression). rows_of_bounds (context_of c.args.known.now c.args.at) (bounds_view b)))
    c.args.list.now c.loop-bounds.bounds-index c.loop-bounds.first _ (omega (arith, c.loop-bounds-test.false)) refl c.loop-bounds.invariant
