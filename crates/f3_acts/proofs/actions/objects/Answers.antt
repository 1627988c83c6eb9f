use Rattle.std.proofs.Common.{rules, refl, arith}
use Rattle.std.specs.List.{flat_map}
use Rattle.f3_typed_parts.specs.Known.{context_of}
use Rattle.f3_typed_parts.proofs.Noting.{item_step, noted_done}
use Rattle.f3_sites.specs.Sites.{site_of}
use Rattle.f3_acts.specs.Inner.Rows.{object_breaks, object_definition}
use Rattle.f3_acts.proofs.actions.objects.Goals as goal

pub loop-object-preserved : goal.loop-object-preserved
loop-object-preserved c = record {
  types = item_step (object_breaks (context_of c.args.site.now.known c.args.site.now.at) c.args.purpose) c.args.objects.now c.loop-object.object-index c.object-item.result c.loop-object.first c.designator.new.first _
      c.loop-object-test.true c.object-item.is (search rules) c.loop-object.invariant.types;
  definitions = item_step (object_definition (site_of c.args.site.now) c.args.purpose) c.args.objects.now c.loop-object.object-index c.object-item.result c.loop-object.later c.definition.new.first _
      c.loop-object-test.true c.object-item.is (search rules) c.loop-object.invariant.definitions;
}

pub returns-clause-noted : goal.returns-clause-noted
returns-clause-noted c =
    noted_done (flat_map (object_breaks (context_of c.args.site.now.known c.args.site.now.at) c.args.purpose)) c.args.objects.now c.loop-object.object-index c.loop-object.first _
    (omega (arith, c.loop-object-test.false)) refl c.loop-object.invariant.types

pub returns-clause-defined : goal.returns-clause-defined
returns-clause-defined c =
    noted_done (flat_map (object_definition (site_of c.args.site.now) c.args.purpose)) c.args.objects.now c.loop-object.object-index c.loop-object.later _
    (omega (arith, c.loop-object-test.false)) refl c.loop-object.invariant.definitions
