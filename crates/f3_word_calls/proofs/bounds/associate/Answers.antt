use Rattle.std.proofs.Common.{refl, subst}
use Rattle.f3_word_cells.specs.Areas.{IsObject}
use Rattle.f3_word_calls.proofs.Bounded.{shown_filled, stood_associated}
use Rattle.f3_word_calls.proofs.bounds.associate.Goals as goal

pub returns-in-Stands : goal.returns-in-Stands
returns-in-Stands c = λ p x r is.
    stood_associated p x c.in-Stands.area _ refl refl refl
    (shown_filled c.in-Stands.area.elements.dims.items c.as_mut_slice.result.now c.show.new.dims c.show.ensures c.as_mut_slice.ensures.value) r
    (subst (λ z. IsObject p x z r) c.in-Stands.is is)
