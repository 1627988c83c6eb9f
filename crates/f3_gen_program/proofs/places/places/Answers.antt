use Rattle.std.proofs.Common.{arith}
use Rattle.f3_gen_program.proofs.Placed.{places_more}
use Rattle.f3_gen_program.proofs.places.places.Goals as goal

pub loop-i-preserved : goal.loop-i-preserved
loop-i-preserved c = record {
  within = omega arith;
  so_far = places_more c.args.total c.loop-i.found.items c.push.new.self.items c.args.ends.now c.loop-i.i c.loop-i-test.true c.loop-i.invariant.within c.loop-i.invariant.so_far c.in_ok-push.ensures.items;
}
