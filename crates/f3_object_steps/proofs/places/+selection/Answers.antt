use Rattle.std.proofs.Common.{◌≡◌, ◌∷◌, rules}
use Rattle.f3_object_steps.proofs.Running.{where_some}
use Rattle.f3_object_steps.proofs.Selections.{selection_more}
use Rattle.f3_object_steps.proofs.places.+selection.Goals as goal

pub returns-in-Some-2 : goal.returns-in-Some-2
returns-in-Some-2 t c =
    let e : c.args.spans.now ≡ c.in-Some.span.now ∷ c.in-Some.others.now = search rules in
    let f : c.args.chosen.now ≡ c.in-Some-split_first.choice.now ∷ c.in-Some-split_first.rest.now = search rules in
    selection_more c.args.spans.now c.in-Some.others.now c.in-Some.span.now c.args.chosen.now c.in-Some-split_first.rest.now c.in-Some-split_first.choice.now c.args.limit c.in-Some-2.behind c.widened.result
    e f (where_some _ _ _ _ c.in-Some-2.is c.in_ok-behind.ensures) c.widened.ensures
