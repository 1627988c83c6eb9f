use Rattle.std.proofs.Common.{rules}
use Rattle.f3_breaks.proofs.Finding.{least_among}
use Rattle.f3_scope_rules.specs.Inner.Rows.{StatementOutside}
use Rattle.f3_scope_rules.proofs.access.first_statement_outside.Goals as goal

pub returns : goal.returns
returns c = least_among (StatementOutside c.args.is_outside) _ c.args.statements.now c.first_among.result (λ x here is. search rules) c.first_among.ensures
