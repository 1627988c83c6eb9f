use Rattle.std.proofs.Common.{◌≡◌, Some, rules}
use Rattle.f3_form.specs.declared.form.Ended.TheVariants as ended
use Rattle.f3_blocks.proofs.Moving.{ends_if, ends_else, ends_case}
use Rattle.f3_blocks.proofs.builder.Opening.end.Goals as goal

pub returns-in_ok-with_branch-in-If : goal.returns-in_ok-with_branch-in-If
returns-in_ok-with_branch-in-If c before os =
    let says : c.args.what ≡ Some ended.If = search rules in
    ends_if _ _ c.args.body before os c.in_ok-with_branch-in-If.field-0 c.in-If.branches c.in-If.at c.in-If.tested says c.in-If.is c.in_ok-with_branch-in-If.ensures

pub returns-in-Else : goal.returns-in-Else
returns-in-Else c before os =
    let says : c.args.what ≡ Some ended.If = search rules in
    ends_else _ _ c.args.body before os c.in-Else.branches says c.in-Else.is

pub returns-in_ok-with_case-in-Case : goal.returns-in_ok-with_case-in-Case
returns-in_ok-with_case-in-Case c before os =
    let says : c.args.what ≡ Some ended.Select = search rules in
    ends_case _ _ c.args.body before os c.in_ok-with_case-in-Case.field-0 c.in-Case.cases c.in-Case.at c.in-Case.value c.in-Case.from c.in-Case.chosen says c.in-Case.is c.in_ok-with_case-in-Case.ensures
