use Rattle.std.proofs.Common.{arith, refl, ◌∙◌}
use Rattle.std.proofs.lemmas.List.{length-set}
use Rattle.f3_finalizable.proofs.Steps.{told_step}
use Rattle.f3_finalizable.proofs.settle.tell_all.Goals as goal

pub loop-entity-preserved : goal.loop-entity-preserved
loop-entity-preserved c = record {
  told = told_step c.loop-entity.things.items c.args.things.now.items c.args.marks.now c.loop-entity.entity _ _ c.index_mut.result.now c.tell.new.thing (omega arith) (omega (arith, c.requires, c.loop-entity.invariant.long)) c.loop-entity.invariant.long
      c.index_mut.ensures.value refl c.tell.ensures c.loop-entity.invariant.told;
  long = length-set c.loop-entity.things.items c.loop-entity.entity c.tell.new.thing ∙ c.loop-entity.invariant.long;
}
