use Rattle.std.proofs.Common.{refl}
use Rattle.f3_word_objects.proofs.Single.{numbered}
use Rattle.f3_word_objects.proofs.selecting.+number_of.Goals as goal

pub returns : goal.returns
returns t c = numbered c.args.dimensions.now c.in-Some.others.now c.args.chosen.now c.in-Some-split_first.rest.now c.in-Some.dimension.now c.in-Some-split_first.choice.now c.in_ok-place.place c.in_ok-behind.behind _
    c.in-Some.ensures.cases.0 c.in-Some-split_first.ensures.cases.0 c.in_ok-place.ensures c.in_ok-behind.ensures refl
