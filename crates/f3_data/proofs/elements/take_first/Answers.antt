use Rattle.std.proofs.Common.{◌≡◌, ◌∙◌, ap, sym, drop, [], arith}
use Rattle.std.specs.Vec.Iter.{into_iter_items}
use Rattle.f3_meaning_whole.specs.Value.{joined}
use Rattle.f3_data.specs.Values.{values_of}
use Rattle.f3_data.specs.Stores.{steps_of}
use Rattle.f3_data.specs.References.{counted}
use Rattle.f3_data.specs.Each.{row_with}
use Rattle.f3_data.proofs.Counted.{none_of}
use Rattle.f3_data.proofs.Putting.{row_nothing}
use Rattle.f3_data.proofs.elements.take_first.Goals as goal

pub returns-clause-values : goal.returns-clause-values
returns-clause-values c =
    let none : into_iter_items c.loop-new.new-iterator ≡ [] = none_of (into_iter_items c.loop-new.new-iterator) (omega (arith, c.loop-new.new-iterator.rest.ok, c.in-None.ensures.steps)) in
    sym (row_nothing (joined (values_of c.loop-new.values.items)) (steps_of c.args.tail.now) (drop c.loop-new.k (counted 0 c.args.count)))
    ∙ sym (ap (λ xs. row_with (joined (values_of c.loop-new.values.items)) (steps_of c.args.tail.now) (drop c.loop-new.k (counted 0 c.args.count)) (values_of xs)) none)
    ∙ c.loop-new.invariant.0
