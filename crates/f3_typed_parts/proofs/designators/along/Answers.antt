use Rattle.std.proofs.Common.{refl, arith, map, List}
use Rattle.f3_kinds.specs.Designators.{along_rows}
use Rattle.f3_typed_parts.specs.declared.known.Part.{Part as Described}
use Rattle.f3_typed_parts.specs.Known.{context_of, part_of}
use Rattle.f3_typed_parts.proofs.Noting.{noted_done}
use Rattle.f3_typed_parts.proofs.Walking.{reached_more, rows_more}
use Rattle.f3_typed_parts.proofs.designators.along.Goals as goal

pub loop-number-preserved : goal.loop-number-preserved
loop-number-preserved c = record {
  reached = reached_more (context_of c.args.known.now c.args.at) c.args.role c.args.parts.now c.loop-number.number _ c.loop-number.reached c.step-reached.result _ c.bounds_at-bounds.result
      c.loop-number-test.true c.index-parts-number.is c.bounds_at-bounds.ensures c.step-reached.ensures.reached c.loop-number.invariant.reached;
  noted = rows_more (context_of c.args.known.now c.args.at) c.args.role c.args.parts.now c.loop-number.number _ c.loop-number.reached c.step-reached.result c.bounds_at-bounds.result c.loop-number.first c.step-reached.new.first _
      c.loop-number-test.true c.index-parts-number.is c.bounds_at-bounds.ensures c.step-reached.ensures.reached c.step-reached.ensures.noted c.loop-number.invariant.noted;
}

pub returns-clause-noted : goal.returns-clause-noted
returns-clause-noted c =
    noted_done (λ (ps : List Described). along_rows (context_of c.args.known.now c.args.at) c.args.role (map part_of ps) c.loop-number.reached) c.args.parts.now c.loop-number.number c.loop-number.first _
    (omega (arith, c.loop-number-test.false)) refl c.loop-number.invariant.noted
