use Rattle.std.proofs.Common.{◌∙◌, ap, length}
use Rattle.f3_data.specs.declared.value.Elements.{Elements}
use Rattle.f3_data.specs.References.{section_in}
use Rattle.f3_located.proofs.Arrays.{whole_array_by}
use Rattle.f3_located.proofs.reaches.reach_of.Goals as goal

pub returns-in_ok-new-in-Array : goal.returns-in_ok-new-in-Array
returns-in_ok-new-in-Array c = λ p. ap (section_in p) c.in_ok-new-in-Array.ensures.ok
    ∙ whole_array_by p _ _ _ _ _ c.in-Array.is
    (c.in_ok-from_slice-in-Array.ensures.items ∙ c.deref-in-Array.ensures.value ∙ ap (λ (x : Elements). x.spans.items) c.deref.ensures) c.new.ensures.items
    (c.len.ensures ∙ c.deref-in-Array-2.result.now.values.ok.0 ∙ ap (λ (x : Elements). length x.values.items) c.deref-in-Array-2.ensures)
