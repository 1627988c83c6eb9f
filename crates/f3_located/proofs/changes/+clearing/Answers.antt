use Rattle.std.proofs.Common.{◌∙◌, ap, map}
use Rattle.std.proofs.lemmas.Result.{IfOk-weaker}
use Rattle.f3_meaning_whole.specs.Value as m
use Rattle.f3_data.specs.declared.value.Elements.{Elements}
use Rattle.f3_data.specs.Values.{values_of}
use Rattle.f3_located.proofs.Spreading.{composite_cleared, array_cleared}
use Rattle.f3_located.proofs.changes.+clearing.Goals as goal

pub cleared-returns-in_ok-all_cleared-in-Composite : goal.cleared-returns-in_ok-all_cleared-in-Composite
cleared-returns-in_ok-all_cleared-in-Composite t c = composite_cleared _ _ _ _ c.in-Composite.is c.deref.ensures.value c.in_ok-all_cleared-in-Composite.ensures

pub cleared-returns-in_ok-all_cleared-in-Array : goal.cleared-returns-in_ok-all_cleared-in-Array
cleared-returns-in_ok-all_cleared-in-Array t c = IfOk-weaker c.array.result _ _ (λ r e. array_cleared c.args.value.now c.in-Array.elements _
    c.in_ok-bounds-in-Array.bounds.items c.in_ok-all_cleared-in-Array.field-0.items c.in-Array.is e
    (c.in_ok-bounds-in-Array.ensures ∙ c.deref-in-Array-2.ensures.value ∙ ap (λ (x : Elements). x.spans.items) c.deref-in-Array.ensures)
    (c.in_ok-all_cleared-in-Array.ensures ∙ ap (λ ys. map m.cleared (values_of ys)) (c.deref-in-Array-4.ensures.value
    ∙ ap (λ (x : Elements). x.values.items) c.deref-in-Array-3.ensures)))
    c.array.ensures
