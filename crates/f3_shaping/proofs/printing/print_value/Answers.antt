use Rattle.std.proofs.Common.{◌∙◌, ap}
use Rattle.f3_data.specs.declared.value.Elements.{Elements}
use Rattle.f3_shaping.proofs.Texts.{text_is}
use Rattle.f3_shaping.proofs.printing.print_value.Goals as goal

pub returns-in-Array-clause-all : goal.returns-in-Array-clause-all
returns-in-Array-clause-all g c =
    let values = c.deref-in-Array.ensures.value ∙ ap (λ (x : Elements). x.values.items) c.deref.ensures in
    let e = text_is c.args.value.now c.in-Array.elements c.deref-in-Array.result.now c.in-Array.is values in
    rw e c.print_elements.ensures.all

pub returns-in-Array-clause-front : goal.returns-in-Array-clause-front
returns-in-Array-clause-front g c =
    let values = c.deref-in-Array.ensures.value ∙ ap (λ (x : Elements). x.values.items) c.deref.ensures in
    let e = text_is c.args.value.now c.in-Array.elements c.deref-in-Array.result.now c.in-Array.is values in
    rw e c.print_elements.ensures.front
