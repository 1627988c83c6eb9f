use Rattle.std.proofs.Common.{◌∙◌, ap}
use Rattle.std.specs.Prelude.{slice_index_or}
use Rattle.f3_meaning_whole.specs.Value as v
use Rattle.f3_data.specs.declared.value.Elements.{Elements}
use Rattle.f3_data.specs.Values.{values_of}
use Rattle.f3_located.proofs.Inside.{array_element}
use Rattle.f3_located.proofs.reads.elements_in.Goals as goal

pub returns-in-Array : goal.returns-in-Array
returns-in-Array c = λ n. ap (λ vs. slice_index_or (values_of vs) n v.Unallocated) (c.deref-in-Array.ensures.value ∙ ap (λ (x : Elements). x.values.items) c.deref.ensures)
    ∙ array_element c.args.value.now c.in-Array.elements n c.in-Array.is
