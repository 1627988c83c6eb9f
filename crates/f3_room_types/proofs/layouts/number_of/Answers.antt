use Rattle.std.proofs.Common.{arith}
use Rattle.f3_room_types.proofs.LayoutLaws.{number_at, no_number, number_within}
use Rattle.f3_room_types.proofs.layouts.number_of.Goals as goal

pub returns-then-number-numbers-clause-at : goal.returns-then-number-numbers-clause-at
returns-then-number-numbers-clause-at c = λ ls ts have. rw c.in-Derived.is (no_number ls ts c.args.numbers.now c.in-Derived.number have (omega arith))

pub returns-else-number-numbers-clause-at : goal.returns-else-number-numbers-clause-at
returns-else-number-numbers-clause-at c = λ ls ts have. rw c.in-Derived.is (number_at ls ts c.args.numbers.now c.in-Derived.number _ have (omega arith))

pub returns-else-number-numbers-clause-within : goal.returns-else-number-numbers-clause-within
returns-else-number-numbers-clause-within c = λ n pos all. number_within c.args.numbers.now c.in-Derived.number _ n (omega arith) all
