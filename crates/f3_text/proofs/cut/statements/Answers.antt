use Rattle.std.proofs.Common.{sym, ap, ◌∙◌}
use Rattle.f3_text.specs.Statements.{Parts, nothing}
use Rattle.f3_text.proofs.CutLemmas.{one_more, fewer, same_fault, none_more, no_fault, cut_short}
use Rattle.f3_text.specs.Reader.{left}
use Rattle.f3_text.proofs.cut.statements.Goals as goal

pub loop-statement-smaller : goal.loop-statement-smaller
loop-statement-smaller c =
    let h = rw c.in-Ok-Some.field-0-is at c.in-Ok-Some.ensures.given in
    fewer _ _ _ h

pub loop-statement-preserved : goal.loop-statement-preserved
loop-statement-preserved c =
    let h = rw c.in-Ok-Some.field-0-is at c.in-Ok-Some.ensures.given in
    record {
      statements = one_more _ _ c.in-Ok-Some.statement _ _ _ c.in_ok-push-in-Ok-Some.ensures.items h c.loop-statement.invariant.statements;
      fault = same_fault _ _ _ _ h c.loop-statement.invariant.fault;
    }

pub returns-in-Ok-None : goal.returns-in-Ok-None
unfolding nothing
returns-in-Ok-None c =
    let h = rw c.in-Ok-None.field-0-is at c.in-Ok-None.ensures.given in
    record {
      statements = none_more c.loop-statement.statements.items (left c.loop-statement.reader) _ (ap (λ (p : Parts). p.statements) h.0) c.loop-statement.invariant.statements;
      fault = no_fault _ (sym c.loop-statement.invariant.fault ∙ ap (λ (p : Parts). p.fault) h.0);
    }

pub returns-in-Err : goal.returns-in-Err
returns-in-Err c = cut_short _ _ _ _ _ _ c.cut_short.ensures c.in-Err.ensures.given c.loop-statement.invariant.statements c.loop-statement.invariant.fault
