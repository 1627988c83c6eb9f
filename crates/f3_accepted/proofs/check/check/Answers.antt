use Rattle.f3_tree.specs.Tree.{view}
use Rattle.f3_accepted.proofs.Joined.{text_refused, program_refused, accepted, not_first}
use Rattle.f3_accepted.proofs.check.check.Goals as goal

pub returns-in-Err : goal.returns-in-Err
returns-in-Err c = rw c.from.ensures (text_refused c.args.sources.now c.in-Err.fault c.in-Err.ensures)

pub invariant_of-result : goal.invariant_of-result
invariant_of-result c = record {
  are_accepted = ∣ (
    c.args.sources.now,
    accepted c.args.sources.now (view c.in-Ok.program) c.in-Ok.ensures.0 c.in-Ok.ensures.1 c.in-Ok-named.ensures.3,
    c.in-Ok-named.ensures.0,
    c.in-Ok-named.ensures.1,
    c.in-Ok-named.ensures.2,
    c.in-Ok-named.ensures.4,
  ) ∣₁;
}

pub returns-in-Ok-named : goal.returns-in-Ok-named
returns-in-Ok-named c = record {
  accepted = accepted c.args.sources.now (view c.in-Ok.program) c.in-Ok.ensures.0 c.in-Ok.ensures.1 c.in-Ok-named.ensures.3;
  only = c.in-Ok.ensures.1;
  none_is_first = not_first c.args.sources.now (view c.in-Ok.program) c.in-Ok.ensures.0 c.in-Ok.ensures.1 c.in-Ok-named.ensures.3 c.in-Ok.ensures.2;
  ordered = c.in-Ok-named.ensures.0;
  named = c.in-Ok-named.ensures.1;
  typed = c.in-Ok-named.ensures.2;
  along = c.in-Ok-named.ensures.4;
}

pub returns-in-Err-named : goal.returns-in-Err-named
returns-in-Err-named c = program_refused c.args.sources.now (view c.in-Ok.program) c.in-Ok.ensures.0 c.in-Ok.ensures.1 c.in-Err-named.fault c.in-Err-named.ensures
