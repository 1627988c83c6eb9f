use Rattle.std.proofs.Common.{sym, subst}
use Rattle.f3_words.specs.declared.item.Keyword.{Keyword}
use Rattle.f3_words.specs.Reads.{Finds}
use Rattle.f3_form.specs.Forms.{form_view}
use Rattle.f3_forms.specs.Grammar.{IsFormOf}
use Rattle.f3_forms.proofs.statements.form_of.Goals as goal

pub returns-in-Module : goal.returns-in-Module
returns-in-Module c = subst (λ (k : Keyword). Finds (IsFormOf k c.args.place) form_view c.unit.result c.args.items.now) (sym c.in-Module.is) c.unit.ensures

pub returns-in-Program : goal.returns-in-Program
returns-in-Program c = subst (λ (k : Keyword). Finds (IsFormOf k c.args.place) form_view c.unit-in-Program.result c.args.items.now) (sym c.in-Program.is) c.unit-in-Program.ensures

pub returns-in-Use : goal.returns-in-Use
returns-in-Use c = subst (λ (k : Keyword). Finds (IsFormOf k c.args.place) form_view c.use_form.result c.args.items.now) (sym c.in-Use.is) c.use_form.ensures

pub returns-in-Public : goal.returns-in-Public
returns-in-Public c = subst (λ (k : Keyword). Finds (IsFormOf k c.args.place) form_view c.access_form.result c.args.items.now) (sym c.in-Public.is) c.access_form.ensures

pub returns-in-Private : goal.returns-in-Private
returns-in-Private c = subst (λ (k : Keyword). Finds (IsFormOf k c.args.place) form_view c.access_form-in-Private.result c.args.items.now) (sym c.in-Private.is) c.access_form-in-Private.ensures

pub returns-in-Protected : goal.returns-in-Protected
returns-in-Protected c = subst (λ (k : Keyword). Finds (IsFormOf k c.args.place) form_view c.protected.result c.args.items.now) (sym c.in-Protected.is) c.protected.ensures

pub returns-in-Final : goal.returns-in-Final
returns-in-Final c = subst (λ (k : Keyword). Finds (IsFormOf k c.args.place) form_view c.finals.result c.args.items.now) (sym c.in-Final.is) c.finals.ensures

pub returns-in-ElseIf : goal.returns-in-ElseIf
returns-in-ElseIf c = subst (λ (k : Keyword). Finds (IsFormOf k c.args.place) form_view c.else_if.result c.args.items.now) (sym c.in-ElseIf.is) c.else_if.ensures

pub returns-in-SelectCase : goal.returns-in-SelectCase
returns-in-SelectCase c = subst (λ (k : Keyword). Finds (IsFormOf k c.args.place) form_view c.select_case.result c.args.items.now) (sym c.in-SelectCase.is) c.select_case.ensures

pub returns-in-Case : goal.returns-in-Case
returns-in-Case c = subst (λ (k : Keyword). Finds (IsFormOf k c.args.place) form_view c.case.result c.args.items.now) (sym c.in-Case.is) c.case.ensures

pub returns-in-Associate : goal.returns-in-Associate
returns-in-Associate c = subst (λ (k : Keyword). Finds (IsFormOf k c.args.place) form_view c.associate.result c.args.items.now) (sym c.in-Associate.is) c.associate.ensures

pub returns-in-Do : goal.returns-in-Do
returns-in-Do c = subst (λ (k : Keyword). Finds (IsFormOf k c.args.place) form_view c.do_form.result c.args.items.now) (sym c.in-Do.is) c.do_form.ensures
