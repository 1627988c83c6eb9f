use Rattle.std.proofs.Common.{rules, FitsSigned}
use Rattle.std.specs.Int.{w64}
use Rattle.std.proofs.lemmas.Int.{to_z-of_z}
use Rattle.f3_cases.proofs.Numbers.{first_made, first_same, of_first}
use Rattle.f3_cases.proofs.union.first_from.Goals as goal

pub returns-in-Some : goal.returns-in-Some
returns-in-Some c =
    let p : FitsSigned w64 c.in-Some.first.now = search rules in
    let q : FitsSigned w64 c.in-Some.last.now = search rules in
    let entry = of_first _ _ _ _ c.in-Some.ensures.steps (c.range-above.ensures.in_range tt).1 in
    let least = (c.range-above.ensures.in_range tt).2 in
    first_same _ _ _ _ _ _ _ (to_z-of_z w64 _ c.ranges.start) (to_z-of_z w64 _ p) (to_z-of_z w64 _ q)
    (first_made c.args.ranges.now _ c.in-Some.first.now c.in-Some.last.now entry.0.0 entry.1 (λ k over there. of_first _ _ _ _ c.in-Some.ensures.steps (least k (over, tt) there)))
