use Rattle.std.proofs.Common.{refl, inr, ◌∙◌}
use Rattle.f3_command.proofs.Said.{refuses_so, informs_so, told_so}
use Rattle.f3_command.proofs.program.usage.Goals as goal

pub returns-then-use_stderr : goal.returns-then-use_stderr
returns-then-use_stderr g c =
    let kinds = c.if-use_stderr.ensures.0 refl in
    inr (refuses_so _ (λ e. let same = rw (c.kind.ensures ∙ e) at c.if-eq.ensures in cc) kinds.0 kinds.1 (record {
      as_before = refl;
      status_is = refl;
      text = c.as_bytes.result.now;
      words = told_so c.write-told.result c.write-told.ensures.all c.write-told.ensures.front;
    }))

pub returns : goal.returns
returns g c = inr (informs_so _ (λ kinds. let asks = c.if-use_stderr.ensures.1 kinds in absurd cc) (record {
  text = c.as_str.result.now;
  end = c.shown.result;
  shown = c.shown.ensures;
  finished = c.finish.ensures;
}))
