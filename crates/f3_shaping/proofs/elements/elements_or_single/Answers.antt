use Rattle.std.proofs.Common.{◌∙◌, ap, sym}
use Rattle.f3_meaning_whole.specs.Value.{spread}
use Rattle.f3_data.specs.Values.{value_of, values_of}
use Rattle.f3_data.specs.declared.value.Elements.{Elements}
use Rattle.f3_shaping.proofs.Spreads.{spread_elements}
use Rattle.f3_shaping.proofs.elements.elements_or_single.Goals as goal

pub returns-in-Array-clause-elements : goal.returns-in-Array-clause-elements
returns-in-Array-clause-elements c = λ n. ap (λ u. spread n (value_of u)) c.in-Array.is ∙ spread_elements c.in-Array.elements n
    ∙ ap (λ (x : Elements). values_of x.values.items) (sym c.into_inner-spans.ensures)
