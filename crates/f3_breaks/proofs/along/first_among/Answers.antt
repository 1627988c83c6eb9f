use Rattle.std.proofs.Common.{◌≡◌, ◌∷◌, refl, sym, subst}
use Rattle.std.specs.Fn.{FnReturnsAt}
use Rattle.std.specs.List.{FoldsTo}
use Rattle.f3_breaks.specs.Among.{FindsAt}
use Rattle.f3_breaks.proofs.along.first_among.Goals as goal

pub loop-item-preserved : goal.loop-item-preserved
loop-item-preserved g c = (
  c.loop-item.invariant.0,
  λ last h. (let here : c.loop-item.left.now ≡ c.in-Some.item.now ∷ c.in-Some.others.now = c.in-Some.ensures.cases.0 in
      c.loop-item.invariant.1 last
      (subst (λ xs. FoldsTo (FindsAt (FnReturnsAt g.F.Fn c.args.find)) c.loop-item.first xs last) (sym here)
      (c.earlier-first.result, (c.find.result, record { shown = c.in-Some.item; shows = refl; says = search c.find.ensures }, c.earlier-first.ensures), h))),
)
