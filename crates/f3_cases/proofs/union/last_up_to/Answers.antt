use Rattle.std.proofs.Common.{rules, FitsSigned}
use Rattle.std.specs.Int.{w64}
use Rattle.std.proofs.lemmas.Int.{to_z-of_z}
use Rattle.f3_cases.proofs.Numbers.{last_made, last_same}
use Rattle.f3_cases.proofs.union.last_up_to.Goals as goal

pub returns-in-Some : goal.returns-in-Some
returns-in-Some c =
    let p : FitsSigned w64 c.in-Some.first.now = search rules in
    let q : FitsSigned w64 c.in-Some.last.now = search rules in
    let entry = (c.range-below.ensures.in_range tt).3 _ _ c.in-Some.ensures.steps in
    let last = (c.range-below.ensures.in_range tt).4 _ _ c.in-Some.ensures.steps in
    last_same _ _ _ _ _ _ _ (to_z-of_z w64 _ c.ranges.end) (to_z-of_z w64 _ p) (to_z-of_z w64 _ q)
    (last_made c.args.ranges.now _ c.in-Some.first.now c.in-Some.last.now entry.0.1 entry.1 (λ k under. last k (tt, under)))
