use Rattle.std.proofs.Common.{sym, subst, ap, ◌∙◌}
use Rattle.f3_nodes.specs.Levels.{AreLevels, all_rise}
use Rattle.f3_nodes.proofs.Rising.{are_levels, no_levels}
use Rattle.f3_nodes.proofs.levels.levels.Goals as goal

pub returns-then-all_rise : goal.returns-then-all_rise
returns-then-all_rise c =
    are_levels c.args.uses.now c.in_ok-levels.levels.items (ap (λ ls. all_rise ls 0 c.args.uses.now) (sym c.deref.ensures.value) ∙ sym c.all_rise.ensures ∙ c.if-all_rise.true)

pub returns-else-all_rise : goal.returns-else-all_rise
returns-else-all_rise c = subst (AreLevels c.args.uses.now) (sym c.new.ensures.items) (no_levels c.args.uses.now)
