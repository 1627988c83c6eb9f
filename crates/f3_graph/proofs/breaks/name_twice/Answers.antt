use Rattle.std.proofs.Common.{◌≡◌, ◌+◌, [], drop, sym, subst, ap, ◌∙◌}
use Rattle.std.proofs.lemmas.List.{drop_all}
use Rattle.f3_rules.specs.Least.{Least, earlier_of, first_of}
use Rattle.f3_rules.proofs.Firsts.{earlier_none}
use Rattle.f3_graph.specs.Breaks.{NameTwice}
use Rattle.f3_graph.specs.Inner.Passes.{pass, name_row, name_next}
use Rattle.f3_graph.specs.Inner.Views.{nodes_view}
use Rattle.f3_graph.proofs.Passing.{pass_step, least_names}
use Rattle.f3_graph.proofs.breaks.name_twice.Goals as goal

pub loop-unit-preserved : goal.loop-unit-preserved
loop-unit-preserved c =
    subst (λ ks. earlier_of c.earlier-first.result (first_of (pass name_row name_next ks (nodes_view (drop (c.loop-unit.unit-index + 1) c.args.units.now)))) ≡ first_of (pass name_row name_next [] (nodes_view c.args.units.now))) (sym c.in_ok-insert.ensures.keys)
    (pass_step name_row name_next c.args.units.now c.loop-unit.unit-index c.unit-item.result c.loop-unit.seen.keys c.loop-unit.first c.earlier-first.result _ c.loop-unit-test.true c.unit-item.is
    (c.earlier-first.ensures ∙ ap (earlier_of c.loop-unit.first) (rw c.contains-was_seen.ensures at c.break_if.ensures)) c.loop-unit.invariant)

pub returns : goal.returns
returns c =
    subst (λ f. Least f (NameTwice (nodes_view c.args.units.now)))
    (sym (sym (earlier_none c.loop-unit.first) ∙ ap (λ l. earlier_of c.loop-unit.first (first_of (pass name_row name_next c.loop-unit.seen.keys (nodes_view l)))) (sym (drop_all c.loop-unit.unit-index c.args.units.now c.loop-unit-test.false)) ∙ c.loop-unit.invariant))
    (least_names (nodes_view c.args.units.now))
