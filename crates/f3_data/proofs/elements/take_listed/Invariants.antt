use Rattle.std.proofs.Common.{◌≡◌, ◌+◌, ◌%◌, ◌^◌, drop, length}
use Rattle.std.specs.Vec.Iter.{into_iter_items}
use Rattle.f3_meaning_whole.specs.Value.{joined}
use Rattle.f3_code.specs.Account.{row}
use Rattle.f3_data.specs.Values.{values_of}
use Rattle.f3_data.specs.Stores.{steps_of}
use Rattle.f3_data.specs.Each.{row_with}
use Rattle.f3_data.proofs.elements.take_listed.Given as goal

abbrev pub invariant-loop-new : goal.invariant-loop-new
invariant-loop-new l =
    (row_with (joined (values_of l.values.items)) (steps_of l.tail) (drop l.k l.places) (values_of (into_iter_items l.new-iterator))
    ≡ row_with (joined (values_of l.fn.values.items)) (steps_of l.tail) l.places (values_of l.fn.news.items))
    × (l.k + length (into_iter_items l.new-iterator) ≡ length l.fn.news.items)
    × ((row (joined (values_of l.fn.values.items)) + l.grown) % 2 ^ 64 ≡ row (joined (values_of l.values.items)) % 2 ^ 64)
