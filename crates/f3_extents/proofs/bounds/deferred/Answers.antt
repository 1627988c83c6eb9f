use Rattle.std.proofs.Common.{refl, arith, rules, [], Option}
use Rattle.std.specs.Option.{option_map}
use Rattle.std.specs.List.{flat_map}
use Rattle.f3_tree.specs.declared.expression.Expression.{Expression}
use Rattle.f3_tree.specs.Expressions.{expression_view}
use Rattle.f3_kinds.specs.Things.{map_or}
use Rattle.f3_typed_parts.specs.Known.{context_of}
use Rattle.f3_typed_parts.proofs.Noting.{item_step, noted_done}
use Rattle.f3_type_rules.specs.Shapes.{bound_rows}
use Rattle.f3_extents.proofs.bounds.deferred.Goals as goal

pub loop-e-preserved : goal.loop-e-preserved
loop-e-preserved c =
    item_step (λ (x : Option Expression). map_or [] (bound_rows (context_of c.args.known.now c.args.at)) (option_map expression_view x))
    c.args.list.now c.loop-e.e-index c.e-item.result c.loop-e.first c.lower.new.first _ c.loop-e-test.true c.e-item.is (search rules) c.loop-e.invariant

pub returns : goal.returns
returns c =
    noted_done (flat_map (λ (x : Option Expression). map_or [] (bound_rows (context_of c.args.known.now c.args.at)) (option_map expression_view x)))
    c.args.list.now c.loop-e.e-index c.loop-e.first _ (omega (arith, c.loop-e-test.false)) refl c.loop-e.invariant
