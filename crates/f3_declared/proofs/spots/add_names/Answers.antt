use Rattle.std.proofs.Common.{ap, ◌∙◌, ◌+◌, nat_eq, map, filter, length, take}
use Rattle.f3_tree.specs.declared.expression.Name.{Name}
use Rattle.f3_declared.specs.Standings.{standing}
use Rattle.f3_declared.proofs.Counting.{named_more}
use Rattle.std.proofs.lemmas.List.{get_or_default}
use Rattle.f3_declared.proofs.spots.add_names.Goals as goal

pub loop-name-preserved : goal.loop-name-preserved
loop-name-preserved c = λ q n h.
    c.in_ok-add_name.ensures q (n + length (filter (nat_eq q) (map (λ (m : Name). m.symbol) (take c.loop-name.name-index c.args.names.now)))) (c.loop-name.invariant q n h)
    ∙ ap standing (named_more (λ (m : Name). m.symbol) q c.args.names.now c.loop-name.name-index _ n c.loop-name-test.true (get_or_default _ _ _ _ c.loop-name-test.true))
