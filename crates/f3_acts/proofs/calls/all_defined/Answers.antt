use Rattle.std.proofs.Common.{refl, arith, ap, sym, ◌∙◌}
use Rattle.std.specs.List.{flat_map}
use Rattle.f3_sites.specs.Sites.{site_of}
use Rattle.f3_typed_parts.specs.Noted.{noted}
use Rattle.f3_typed_parts.proofs.Noting.{noted_step, noted_done}
use Rattle.f3_acts.specs.Inner.Rows.{value_definition}
use Rattle.f3_acts.proofs.Given.{all_values}
use Rattle.f3_acts.proofs.calls.all_defined.Goals as goal

pub loop-one-preserved : goal.loop-one-preserved
loop-one-preserved c =
    noted_step (value_definition (site_of c.args.site.now)) c.args.given.now c.loop-one.one-index _ c.loop-one.first c.value.new.first _ c.loop-one-test.true c.value.ensures c.loop-one.invariant

pub returns : goal.returns
returns c =
    noted_done (flat_map (value_definition (site_of c.args.site.now))) c.args.given.now c.loop-one.one-index c.loop-one.first _ (omega (arith, c.loop-one-test.false)) refl c.loop-one.invariant
    ∙ ap (noted c.args.first.now) (sym (all_values (site_of c.args.site.now) c.args.given.now))
