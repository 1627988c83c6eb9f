use Rattle.std.proofs.Common.{◌≡◌, ◌+◌, ◌==◌, false, length, map, drop, sym, subst, ap, ◌∙◌, ◌||◌}
use Rattle.f3_rules.specs.Least.{earlier_of, first_of}
use Rattle.f3_scopes.specs.Outlines.{listed_view}
use Rattle.f3_scope_rules.specs.Inner.Rows.{pass, default_row, default_next}
use Rattle.f3_scope_rules.proofs.Passing.{pass_step_view}
use Rattle.f3_scope_rules.proofs.access.first_default_again.Goals as goal

pub loop-statement-preserved : goal.loop-statement-preserved
loop-statement-preserved c =
    let x = c.statement-item.result in
    let had = c.loop-statement.had_one in
    let is = c.is_default-is_default.ensures ∙ ap (λ names. length names == 0) c.deref.ensures.value in
    subst (λ t. earlier_of c.earlier-first.result (first_of (pass default_row default_next (had || t) (map listed_view (drop (c.loop-statement.statement-index + 1) c.args.statements.now)))) ≡ first_of (pass default_row default_next false (map listed_view c.args.statements.now))) (sym is)
    (pass_step_view default_row default_next listed_view c.args.statements.now c.loop-statement.statement-index x had c.loop-statement.first c.earlier-first.result _ c.loop-statement-test.true c.statement-item.is
    (c.earlier-first.ensures ∙ ap (earlier_of c.loop-statement.first) (rw is at c.break_at_keyword-found.ensures.found)) c.loop-statement.invariant)
