use Rattle.std.proofs.Common.{refl, arith, ap, ◌∙◌}
use Rattle.f3_kinds.specs.Operands.{mixed_rows}
use Rattle.f3_typed_parts.specs.Noted.{noted}
use Rattle.f3_typed_parts.proofs.Noting.{noted_done}
use Rattle.f3_typed_parts.proofs.operands.mixed.Goals as goal

pub returns : goal.returns
returns c =
    noted_done (mixed_rows c.args.data_type) c.args.items.now c.loop-item.item-index c.loop-item.first _ (omega (arith, c.loop-item-test.false)) refl
    (ap (noted c.loop-item.first) c.loop-item.invariant.1 ∙ ap (λ a. noted a (mixed_rows c.args.data_type c.args.items.now)) c.loop-item.invariant.0)
