use Rattle.std.proofs.Common.{◌∙◌, sym, ap}
use Rattle.f3_meaning_whole.specs.Value.{spread}
use Rattle.f3_data.specs.declared.value.Elements.{Elements}
use Rattle.f3_data.specs.Values.{value_of, values_of}
use Rattle.f3_located.proofs.Spreading.{spread_elements}
use Rattle.f3_located.proofs.changes.elements_of.Goals as goal

pub returns-in-Array : goal.returns-in-Array
returns-in-Array c = λ h n. sym (ap (λ x. spread n (value_of x)) c.in-Array.is ∙ spread_elements n c.in-Array.elements
    ∙ ap (λ (x : Elements). values_of x.values.items) (sym c.into_inner-spans.ensures))
