use Rattle.std.proofs.Common.{◌≡◌, Some, ap, ◌∙◌, sym}
use Rattle.f3_rules.specs.Least.{earlier_of}
use Rattle.f3_rules.specs.declared.rule.Rule.TheVariants.{S5, S6, S8}
use Rattle.f3_words.specs.Lines.{line_view, broken}
use Rattle.f3_form.specs.Forms.{form_view}
use Rattle.f3_units.specs.Machine.{builder_view}
use Rattle.f3_parse.specs.Phase.{place_of, first_place}
use Rattle.f3_parse.proofs.Judge.{stops_no_form, stops_out, stops_deep, stops_fault}
use Rattle.f3_parse.proofs.advance.advance.Goals as goal

pub returns-in-Err-NoForm : goal.returns-in-Err-NoForm
returns-in-Err-NoForm c =
    let place : c.first_place-place.result ≡ place_of (line_view c.args.line) = c.first_place-place.ensures ∙ ap first_place c.deref.ensures.value in
    let first : earlier_of c.args.line.fault (Some (broken S5 (place_of (line_view c.args.line)))) ≡ Some c.first_of.result = rw (sym place) (rw (← c.broken.ensures) c.first_of.ensures) in
    let none = rw c.in-Err-NoForm.field-0-is at c.in-Err-NoForm.ensures in
    let none_here = rw c.deref-2.ensures.value at none in
    stops_no_form (builder_view c.args.builder.now) (line_view c.args.line) c.first_of.result first none_here

pub returns-in-Err-OutOfPlace : goal.returns-in-Err-OutOfPlace
returns-in-Err-OutOfPlace c =
    let place : c.first_place-place.result ≡ place_of (line_view c.args.line) = c.first_place-place.ensures ∙ ap first_place c.deref.ensures.value in
    let first : earlier_of c.args.line.fault (Some (broken S6 (place_of (line_view c.args.line)))) ≡ Some c.first_of-in-Err-OutOfPlace.result = rw (sym place) (rw (← c.broken-in-Err-OutOfPlace.ensures) c.first_of-in-Err-OutOfPlace.ensures) in
    let out = rw c.in-Err-OutOfPlace.field-0-is at c.in-Err-OutOfPlace.ensures in
    let out_here = rw place at out in
    let is = rw c.deref-2.ensures.value at c.in-Ok.ensures in
    stops_out (builder_view c.args.builder.now) (line_view c.args.line) c.first_of-in-Err-OutOfPlace.result (form_view c.in-Ok.form) first is.0 is.1 out_here

pub returns-in-Err-TooDeep : goal.returns-in-Err-TooDeep
returns-in-Err-TooDeep c =
    let place : c.first_place-place.result ≡ place_of (line_view c.args.line) = c.first_place-place.ensures ∙ ap first_place c.deref.ensures.value in
    let first : earlier_of c.args.line.fault (Some (broken S8 (place_of (line_view c.args.line)))) ≡ Some c.first_of-in-Err-TooDeep.result = rw (sym place) (rw (← c.broken-in-Err-TooDeep.ensures) c.first_of-in-Err-TooDeep.ensures) in
    let deep = rw c.in-Err-TooDeep.field-0-is at c.in-Err-TooDeep.ensures in
    let deep_here = rw place at deep in
    let is = rw c.deref-2.ensures.value at c.in-Ok.ensures in
    stops_deep (builder_view c.args.builder.now) deep_here.0 (line_view c.args.line) c.first_of-in-Err-TooDeep.result (form_view c.in-Ok.form) first is.0 is.1 deep_here.1 deep_here.2

pub returns-in-Some : goal.returns-in-Some
returns-in-Some c =
    let place : c.first_place-place.result ≡ place_of (line_view c.args.line) = c.first_place-place.ensures ∙ ap first_place c.deref.ensures.value in
    let on = rw place at c.in-Ok-step.ensures in
    let is = rw c.deref-2.ensures.value at c.in-Ok.ensures in
    stops_fault (builder_view c.args.builder.now) (builder_view c.step.new.self) (line_view c.args.line) c.in-Some.found (form_view c.in-Ok.form) c.in-Some.is is.0 on.0 on.1

pub returns : goal.returns
returns c =
    let place : c.first_place-place.result ≡ place_of (line_view c.args.line) = c.first_place-place.ensures ∙ ap first_place c.deref.ensures.value in
    let on = rw place at c.in-Ok-step.ensures in
    let is = rw c.deref-2.ensures.value at c.in-Ok.ensures in
    record { form = form_view c.in-Ok.form; has = record { sound = c.in-None.is; is = is.0; only = is.1 }; next = on.0; shallow = on.1 }
