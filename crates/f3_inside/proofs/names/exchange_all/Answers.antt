use Rattle.std.proofs.Common.{◌∙◌}
use Rattle.f3_numbers.specs.Table.{object_in}
use Rattle.f3_inside.specs.Exchanged.{put_all}
use Rattle.f3_inside.proofs.Exchanged.{popped, pushed}
use Rattle.f3_inside.proofs.names.exchange_all.Goals as goal

pub loop-new-preserved : goal.loop-new-preserved
loop-new-preserved c = record {
  objects = popped c.loop-new.list.items c.pop.new.self.items c.in-Some.new (object_in c.loop-new.numbers) (object_in c.exchange.new.numbers) (put_all c.args.list.items (object_in c.args.numbers.now))
      c.in-Some.ensures.items c.in_ok-exchange.ensures.objects c.loop-new.invariant.objects;
  before = pushed c.loop-new.before.items c.push.new.self.items c.in_ok-exchange.field-0 (object_in c.loop-new.numbers) (object_in c.exchange.new.numbers) (object_in c.args.numbers.now)
      c.in_ok-push.ensures.items c.in_ok-exchange.ensures.before c.loop-new.invariant.before;
  procedures = λ e. c.in_ok-exchange.ensures.procedures e ∙ c.loop-new.invariant.procedures e;
  types = λ e. c.in_ok-exchange.ensures.types e ∙ c.loop-new.invariant.types e;
}
