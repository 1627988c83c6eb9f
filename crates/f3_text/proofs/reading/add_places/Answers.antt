use Rattle.std.proofs.Common.{◌++◌, ◌∷◌, [], ◌-◌, ◌+◌, sym, ap, ◌∙◌, append_assoc, arith}
use Rattle.f3_places.specs.declared.source.Place.{Place}
use Rattle.f3_text.specs.Inner.Reading.{places_from}
use Rattle.f3_text.proofs.Going.{places_more}
use Rattle.f3_text.proofs.reading.add_places.Goals as goal

pub loop-left-preserved : goal.loop-left-preserved
loop-left-preserved c =
    let left = c.loop-left.left in
    let place = c.loop-left.place in
    let next : Place = record { file = place.file; line = place.line; column = place.column + 1 } in
    let before = c.loop-left.places.items in
    record {
      fits = omega (arith, c.loop-left.invariant.fits, c.loop-left-test.true);
      same =
          ap (λ xs. xs ++ places_from (left - 1) next) c.in_ok-push.ensures.items
          ∙ append_assoc before (place ∷ []) (places_from (left - 1) next)
          ∙ ap (λ xs. before ++ xs) (sym (places_more left place c.loop-left-test.true))
          ∙ c.loop-left.invariant.same;
    }
