use Rattle.std.proofs.Common.{◌∙◌, ap, arith, ◌++◌, ◌∷◌, []}
use Rattle.f3_gen_work.proofs.Destroying.{next_told}
use Rattle.f3_gen_work.proofs.types.Types.of.Goals as goal

pub loop-one-preserved : goal.loop-one-preserved
loop-one-preserved c =
    next_told c.args.items.now c.loop-one.one-index c.one-item.result c.loop-one.destroyed.items c.push.new.self.items (omega arith) c.one-item.is c.loop-one.invariant
    (c.in_ok-push.ensures.items ∙ ap (λ b. c.loop-one.destroyed.items ++ b ∷ []) (rw c.deref.ensures.value at c.is_type_destroyed_by-is_destroyed.ensures))
