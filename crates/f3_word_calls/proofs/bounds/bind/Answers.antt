use Rattle.std.proofs.Common.{refl, subst}
use Rattle.f3_word_cells.specs.Areas.{IsObject}
use Rattle.f3_word_calls.proofs.Bounded.{based_filled, stood_bound}
use Rattle.f3_word_calls.proofs.bounds.bind.Goals as goal

pub returns-in-Stands : goal.returns-in-Stands
returns-in-Stands c = λ p x r is.
    stood_bound p x c.in-Stands.area _ refl refl refl c.args.dummy.now
    (based_filled c.in-Stands.area.elements.dims.items c.as_mut_slice.result.now c.base.new.dims c.args.dummy.now.lowers.items c.deref.result.now c.base.ensures
    c.as_mut_slice.ensures.value c.deref.ensures.value) r (subst (λ z. IsObject p x z r) c.in-Stands.is is)
