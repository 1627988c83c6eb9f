use Rattle.std.proofs.Common.{rules, refl, arith, map}
use Rattle.std.specs.List.{flat_map}
use Rattle.f3_typed_parts.specs.Known.{context_of, part_of}
use Rattle.f3_typed_parts.proofs.Noting.{item_step, noted_done, pushed_done}
use Rattle.f3_typing.specs.Lists.{said_part, breaks_part}
use Rattle.f3_typing.proofs.Trees.{part_more}
use Rattle.f3_typing.proofs.designators.parts.Goals as goal

pub loop-one-preserved : goal.loop-one-preserved
loop-one-preserved c = record {
  said = part_more (context_of c.args.known.now c.args.at) c.args.list.now c.loop-one.one-index c.one-item.result c.loop-one.done.items c.push.new.self.items c.in_ok-part.field-0 _ c.loop-one-test.true c.one-item.is (search rules) (search rules) c.loop-one.invariant.said;
  noted = item_step (breaks_part (context_of c.args.known.now c.args.at)) c.args.list.now c.loop-one.one-index c.one-item.result c.loop-one.first c.part.new.first _ c.loop-one-test.true c.one-item.is (search rules) c.loop-one.invariant.noted;
}

pub returns-clause-said : goal.returns-clause-said
returns-clause-said c = pushed_done (said_part (context_of c.args.known.now c.args.at)) c.args.list.now c.loop-one.one-index (map part_of c.loop-one.done.items) _ (omega (arith, c.loop-one-test.false)) c.loop-one.invariant.said

pub returns-clause-noted : goal.returns-clause-noted
returns-clause-noted c = noted_done (flat_map (breaks_part (context_of c.args.known.now c.args.at))) c.args.list.now c.loop-one.one-index c.loop-one.first _ (omega (arith, c.loop-one-test.false)) refl c.loop-one.invariant.noted
