use Rattle.std.proofs.Common.{rules, refl, arith}
use Rattle.std.specs.List.{flat_map}
use Rattle.f3_typed_parts.specs.Known.{context_of}
use Rattle.f3_typed_parts.proofs.Noting.{item_step, noted_done}
use Rattle.f3_acts.specs.Inner.Rows.{item_row}
use Rattle.f3_acts.proofs.actions.items.Goals as goal

pub loop-e-preserved : goal.loop-e-preserved
loop-e-preserved c =
    item_step (item_row (context_of c.args.known.now c.args.at)) c.args.list.now c.loop-e.e-index c.e-item.result c.loop-e.first c.item.new.first _ c.loop-e-test.true c.e-item.is (search rules) c.loop-e.invariant

pub returns : goal.returns
returns c =
    noted_done (flat_map (item_row (context_of c.args.known.now c.args.at))) c.args.list.now c.loop-e.e-index c.loop-e.first _ (omega (arith, c.loop-e-test.false)) refl c.loop-e.invariant
