use Rattle.std.proofs.Common.{refl, arith, List}
use Rattle.f3_kinds.specs.declared.said.Given.{Given}
use Rattle.f3_kinds.specs.Calls.{constructor_given}
use Rattle.f3_typed_parts.proofs.Noting.{noted_done}
use Rattle.f3_references.proofs.Building.{values_more}
use Rattle.f3_references.proofs.constructors.values.Goals as goal

pub loop-position-preserved : goal.loop-position-preserved
loop-position-preserved c =
    values_more c.args.inside c.args.components.now.entries c.args.given.now c.loop-position.position _ c.loop-position.first c.value_at.new.first _ c.loop-position-test.true
    c.value_at.ensures c.loop-position.invariant

pub returns : goal.returns
returns c =
    noted_done (λ (gs : List Given). constructor_given c.args.inside c.args.components.now.entries c.loop-position.position gs) c.args.given.now c.loop-position.position c.loop-position.first _
    (omega (arith, c.loop-position-test.false)) refl c.loop-position.invariant
