use Rattle.std.proofs.Common.{length, drop, map, subst, arith}
use Rattle.f3_code.specs.Lower.{deallocation}
use Rattle.f3_code.specs.Code.{deallocate_code}
use Rattle.f3_gen_work.specs.EmittedIn.{EmittedIn}
use Rattle.f3_gen_work.proofs.Dropping.{drop_before}
use Rattle.f3_gen_actions.proofs.Freeing.{freed_in}
use Rattle.f3_gen_actions.proofs.storage.emit_deallocations.Goals as goal

pub loop-i-preserved : goal.loop-i-preserved
loop-i-preserved c = record {
  within = omega arith;
  begun = c.loop-i.invariant.begun;
  emitted = subst (λ rs. EmittedIn c.args.types.now c.args.code.now.items c.emit_request.new.code.items (λ g. deallocate_code (length c.args.types.now) c.args.place (map (deallocation g) rs)))
      (drop_before c.args.requests.now c.loop-i.i c.index-requests-i.result c.loop-i-test.true c.loop-i.invariant.within c.index-requests-i.is)
      (freed_in c.args.place c.index-requests-i.result (drop c.loop-i.i c.args.requests.now) _ c.loop-i.invariant.emitted c.in_ok-emit_request.ensures (omega arith));
}
