use Rattle.std.proofs.Common.{◌≡◌, false, map, drop}
use Rattle.f3_rules.specs.Least.{earlier_of, first_of}
use Rattle.f3_scopes.specs.Outlines.{listed_view}
use Rattle.f3_scope_rules.specs.Inner.Rows.{pass, default_row, default_next}
use Rattle.f3_scope_rules.proofs.access.first_default_again.Given as goal

abbrev pub invariant-loop-statement : goal.invariant-loop-statement
invariant-loop-statement l = earlier_of l.first (first_of (pass default_row default_next l.had_one (map listed_view (drop l.statement-index l.statements)))) ≡ first_of (pass default_row default_next false (map listed_view l.statements))
