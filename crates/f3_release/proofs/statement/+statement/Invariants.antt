use Rattle.std.proofs.Common.{◌≤◌}
use Rattle.f3_program.specs.declared.statement.Statement.{size-Statement}
use Rattle.f3_release.proofs.statement.+statement.Given as goal

abbrev pub invariant-release_block-loop-statement : goal.invariant-release_block-loop-statement
invariant-release_block-loop-statement l = goal.no_deeper-release_block-loop-statement l

abbrev pub decreases-release_block-loop-statement : goal.decreases-release_block-loop-statement
decreases-release_block-loop-statement l = goal.left-release_block-loop-statement l

abbrev pub invariant-release_statement-loop-current : goal.invariant-release_statement-loop-current
invariant-release_statement-loop-current l = size-Statement l.current ≤ size-Statement l.fn.statement
