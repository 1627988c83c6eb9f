use Rattle.std.proofs.Common.{◌<◌, length, arith}
use Rattle.f3_nodes.specs.declared.walk.Mark.TheVariants.{Done}
use Rattle.f3_nodes.proofs.Walking.{mark_read}
use Rattle.f3_nodes.proofs.walk.finish.Goals as goal

pub returns-in-Done : goal.returns-in-Done
returns-in-Done c =
    let inside : c.args.root < length c.args.marks.now.items = omega (arith, c.requires.root, c.requires.settled.long) in
    record {
      settled = c.requires.settled;
      closed = c.requires.closed;
      root_done = c.requires.settled.listed c.args.root (mark_read c.args.marks.now.items c.args.root c.index.result.now Done inside c.index.ensures c.in-Done.is);
      kept = λ u h. h;
    }
