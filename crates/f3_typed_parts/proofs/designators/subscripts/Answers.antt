use Rattle.std.proofs.Common.{refl, arith}
use Rattle.std.specs.List.{flat_map}
use Rattle.f3_kinds.specs.Designators.{subscript_rows}
use Rattle.f3_typed_parts.proofs.Noting.{noted_step, noted_done}
use Rattle.f3_typed_parts.proofs.designators.subscripts.Goals as goal

pub loop-one-preserved : goal.loop-one-preserved
loop-one-preserved c =
    noted_step subscript_rows c.args.given.now c.loop-one.one-index _ c.loop-one.first c.subscript.new.first _ c.loop-one-test.true c.subscript.ensures c.loop-one.invariant

pub returns : goal.returns
returns c = noted_done (flat_map subscript_rows) c.args.given.now c.loop-one.one-index c.loop-one.first _ (omega (arith, c.loop-one-test.false)) refl c.loop-one.invariant
