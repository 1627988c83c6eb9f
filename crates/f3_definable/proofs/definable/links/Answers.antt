use Rattle.std.proofs.Common.{refl, arith}
use Rattle.std.specs.List.{flat_map}
use Rattle.f3_type_rules.specs.Definitions.{link_rows}
use Rattle.f3_sites.specs.Sites.{site_of}
use Rattle.f3_typed_parts.proofs.Noting.{noted_step, noted_done}
use Rattle.f3_definable.proofs.definable.links.Goals as goal

pub loop-entity-preserved : goal.loop-entity-preserved
loop-entity-preserved c =
    noted_step (link_rows (site_of c.args.site.now) c.args.said.now) c.args.entities.now c.loop-entity.entity-index _ c.loop-entity.first c.link.new.first _ c.loop-entity-test.true c.link.ensures c.loop-entity.invariant

pub returns : goal.returns
returns c =
    noted_done (flat_map (link_rows (site_of c.args.site.now) c.args.said.now)) c.args.entities.now c.loop-entity.entity-index c.loop-entity.first _ (omega (arith, c.loop-entity-test.false)) refl c.loop-entity.invariant
