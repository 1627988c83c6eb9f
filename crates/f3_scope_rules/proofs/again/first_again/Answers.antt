use Rattle.std.proofs.Common.{◌≡◌, ◌+◌, [], drop, sym, subst, ap, ◌∙◌}
use Rattle.std.proofs.lemmas.List.{drop_all}
use Rattle.f3_rules.specs.Least.{Least, earlier_of, first_of}
use Rattle.f3_rules.proofs.Firsts.{earlier_none}
use Rattle.f3_scope_rules.specs.Inner.Rows.{pass, again_row, again_next, AgainIn}
use Rattle.f3_scope_rules.proofs.Twice.{least_again}
use Rattle.f3_scope_rules.proofs.Passing.{pass_step, no_name}
use Rattle.f3_scope_rules.proofs.again.first_again.Goals as goal

pub loop-name-preserved : goal.loop-name-preserved
loop-name-preserved c =
    subst (λ ks. earlier_of c.earlier-first.result (first_of (pass (again_row c.args.rule) again_next ks (drop (c.loop-name.name-index + 1) c.args.names.now))) ≡ first_of (pass (again_row c.args.rule) again_next [] c.args.names.now)) (sym c.in_ok-insert.ensures.keys)
    (pass_step (again_row c.args.rule) again_next c.args.names.now c.loop-name.name-index no_name c.loop-name.seen.keys c.loop-name.first c.earlier-first.result _ c.loop-name-test.true
    (c.earlier-first.ensures ∙ ap (earlier_of c.loop-name.first) (rw c.contains-was_seen.ensures at c.break_at.ensures.found)) c.loop-name.invariant)

pub returns : goal.returns
returns c =
    subst (λ f. Least f (AgainIn c.args.rule c.args.names.now))
    (sym (sym (earlier_none c.loop-name.first) ∙ ap (λ l. earlier_of c.loop-name.first (first_of (pass (again_row c.args.rule) again_next c.loop-name.seen.keys l))) (sym (drop_all c.loop-name.name-index c.args.names.now c.loop-name-test.false)) ∙ c.loop-name.invariant))
    (least_again c.args.rule c.args.names.now)
