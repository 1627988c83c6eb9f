use Rattle.std.proofs.Common.{◌≡◌, ◌∙◌, ap}
use Rattle.std.specs.Prelude.{◌∷◌}
use Rattle.f3_room_arrays.specs.Words.{places_from}
use Rattle.f3_room_arrays.proofs.Numbers.{places-cons}
use Rattle.f3_room_arrays.proofs.runs.first_and_others.Goals as goal

pub returns-in-Some-clause-places : goal.returns-in-Some-clause-places
returns-in-Some-clause-places c at =
    let e : c.args.dims.now ≡ c.in-Some.first.now ∷ c.in-Some.others.now = c.in-Some.ensures.cases.0 in
    ap (places_from at) e ∙ places-cons at c.in-Some.first.now c.in-Some.others.now
