use Rattle.std.proofs.Common.{refl, arith}
use Rattle.f3_text.specs.Ends.{end_of}
use Rattle.f3_text.proofs.SourceEnds.{line_feed_at, line_same_at, column_feed_at, column_more_at, line_end, column_end, column_whole}
use Rattle.f3_text.proofs.cut.source_end.Goals as goal
use Rattle.f3_text.proofs.cut.source_end.Goals.{then-byte-eq10, else-byte-eq10}

pub loop-byte-preserved : goal.loop-byte-preserved
loop-byte-preserved c = elim c.if-byte-eq10.branch [
  | then-byte-eq10 w ↦ record {
    bound = (omega arith, omega arith);
    line = line_feed_at c.args.bytes.now c.loop-byte.byte-index c.loop-byte.line _ _ c.loop-byte-test.true w.if-byte-eq10.true w.line-is c.loop-byte.invariant.line;
    column = column_feed_at c.args.bytes.now c.loop-byte.byte-index c.loop-byte.column _ _ c.loop-byte-test.true w.if-byte-eq10.true w.column-is c.loop-byte.invariant.column;
  }
  | else-byte-eq10 w ↦ record {
    bound = (omega arith, omega arith);
    line = line_same_at c.args.bytes.now c.loop-byte.byte-index c.loop-byte.line _ _ c.loop-byte-test.true w.if-byte-eq10.false w.line-is c.loop-byte.invariant.line;
    column = column_more_at c.args.bytes.now c.loop-byte.byte-index c.loop-byte.column _ _ c.loop-byte-test.true w.if-byte-eq10.false w.column-is c.loop-byte.invariant.column;
  }
]

pub returns : goal.returns
unfolding end_of
returns c =
    rw (
      line_end c.loop-byte.line c.loop-byte.byte-index _ c.args.bytes.now c.loop-byte-test.false c.loop-byte.invariant.line,
      column_end c.loop-byte.column c.loop-byte.byte-index _ c.args.bytes.now c.loop-byte-test.false c.loop-byte.invariant.column,
      column_whole c.args.bytes.now,
    ) refl
