use Rattle.std.proofs.Common.{sym, ◌∙◌}
use Rattle.f3_text.proofs.Going.{fault_open, depth_open, fault_broken, fault_none, depth_outside, depth_shallow, deepens_from}
use Rattle.f3_text.proofs.reading.deepen.Goals as goal

pub returns-then-is_open : goal.returns-then-is_open
returns-then-is_open c = (fault_open _ _ _ (sym c.if-is_open.ensures), depth_open _ _ _ (sym c.if-is_open.ensures), c.args.mode.shallow)

pub returns-in-Some : goal.returns-in-Some
returns-in-Some c = deepens_from _ _ _ _ _ c.refuse.ensures (fault_broken _ _ _ _ (sym c.if-is_open.ensures) (sym c.in-Some.ensures))

pub returns-in-None : goal.returns-in-None
returns-in-None c = (fault_none _ _ _ (sym c.if-is_open.ensures) (sym c.in-None.ensures), c.depth_after.ensures ∙ depth_outside _ _ _ (sym c.if-is_open.ensures), rw c.depth_after.ensures (depth_shallow _ _ (sym c.in-None.ensures) c.args.mode.shallow))
