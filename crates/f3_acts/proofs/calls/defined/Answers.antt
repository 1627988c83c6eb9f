use Rattle.std.proofs.Common.{refl, arith, List}
use Rattle.std.specs.List.{flat_map}
use Rattle.f3_kinds.specs.declared.said.Given.{Given}
use Rattle.f3_type_rules.specs.Definitions.{definition_rows, arguments_defined}
use Rattle.f3_sites.specs.Sites.{site_of}
use Rattle.f3_typed_parts.proofs.Noting.{noted_done}
use Rattle.f3_acts.proofs.Given.{defined_more}
use Rattle.f3_acts.proofs.calls.defined.Goals as goal

pub loop-position-preserved : goal.loop-position-preserved
loop-position-preserved c =
    defined_more (site_of c.args.site.now) c.args.dummies.now.entries c.args.given.now c.loop-position.position _ c.loop-position.first c.argument.new.first _ c.loop-position-test.true
    c.argument.ensures c.loop-position.invariant

pub returns : goal.returns
returns c =
    noted_done (λ (gs : List Given). flat_map (definition_rows (site_of c.args.site.now)) (arguments_defined c.args.dummies.now.entries c.loop-position.position gs)) c.args.given.now c.loop-position.position c.loop-position.first _
    (omega (arith, c.loop-position-test.false)) refl c.loop-position.invariant
