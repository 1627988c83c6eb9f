use Rattle.std.proofs.Common.{refl, sym, ap, subst, ◌∙◌, not}
use Rattle.f3_meaning_whole.specs.Store.{Root, Static}
use Rattle.f3_meaning_laws.specs.Laws.{IsThere}
use Rattle.f3_lawful_laws.proofs.Positions.{eq_self}
use Rattle.f3_owner_laws.specs.Pure.{is_other}
use Rattle.f3_owner_laws.proofs.pure_calls_keep_variables.Goals as goal

pub returns : goal.returns
returns c = λ sources p m depth n f is ps here w after v i passed ends q at.
    let kept = c.pure_calls_keep.ensures sources p m depth n f is ps here w after v (is_other (Static i)) (λ l j h. refl) passed ends in
    kept.1 q (subst (λ (r : Root). IsThere r w.store) (sym at) tt) (ap (is_other (Static i)) at ∙ ap not (eq_self i))
