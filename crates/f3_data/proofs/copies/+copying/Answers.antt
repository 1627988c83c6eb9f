use Rattle.std.proofs.Common.{◌∙◌, ap}
use Rattle.std.proofs.lemmas.Result.{IfOk-weaker}
use Rattle.f3_data.specs.Values.{values_of}
use Rattle.f3_data.specs.declared.value.Elements.{Elements}
use Rattle.f3_data.proofs.Rows.{array_copied}
use Rattle.f3_data.proofs.copies.+copying.Goals as goal

pub value-returns-in_ok-values-in-Array : goal.value-returns-in_ok-values-in-Array
value-returns-in_ok-values-in-Array t c = IfOk-weaker c.array.result _ _ (λ r e. array_copied c.args.original.now c.in-Array.elements _
    c.in_ok-bounds-in-Array.bounds c.in_ok-values-in-Array.field-0 c.in-Array.is e
    (c.in_ok-bounds-in-Array.ensures ∙ c.deref-in-Array-2.ensures.value ∙ ap (λ (x : Elements). x.spans.items) c.deref-in-Array.ensures)
    (c.in_ok-values-in-Array.ensures ∙ ap values_of (c.deref-in-Array-4.ensures.value ∙ ap (λ (x : Elements). x.values.items) c.deref-in-Array-3.ensures)))
    c.array.ensures
