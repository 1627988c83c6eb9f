use Rattle.std.proofs.Common.{◌≡◌, [], drop}
use Rattle.f3_rules.specs.Least.{earlier_of, first_of}
use Rattle.f3_scope_rules.specs.Inner.Rows.{pass, again_row, again_next}
use Rattle.f3_scope_rules.proofs.again.first_again.Given as goal

abbrev pub invariant-loop-name : goal.invariant-loop-name
invariant-loop-name l = earlier_of l.first (first_of (pass (again_row l.rule) again_next l.seen.keys (drop l.name-index l.names))) ≡ first_of (pass (again_row l.rule) again_next [] l.names)
