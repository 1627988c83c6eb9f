use Rattle.std.proofs.Common.{◌≡◌, ◌↔◌, IsTrue, rules}
use Rattle.f3_names.specs.Texts.{lowered}
use Rattle.f3_names.proofs.Finding.{decided, is_lower_case, lowered_again}
use Rattle.f3_names.proofs.texts.is_lowered.Goals as goal

pub returns-then-eq_ignore_ascii_case : goal.returns-then-eq_ignore_ascii_case
returns-then-eq_ignore_ascii_case c =
    let text = c.args.text.now in
    let name = c.args.name.now in
    let h = is_lower_case text name (c.eq_ignore_ascii_case.ensures.test.0 c.if-eq_ignore_ascii_case.true) in
    decided c.has_no_capital.result text (lowered name) (rw c.has_no_capital.ensures h)

pub returns-else-eq_ignore_ascii_case : goal.returns-else-eq_ignore_ascii_case
returns-else-eq_ignore_ascii_case c =
    let h : (IsTrue c.eq_ignore_ascii_case.result) ↔ (c.args.text.now ≡ lowered c.args.name.now) = search (rules, lowered_again) in
    decided c.eq_ignore_ascii_case.result c.args.text.now (lowered c.args.name.now) h
