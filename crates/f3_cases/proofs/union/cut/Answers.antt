use Rattle.std.proofs.Common.{rules, FitsSigned}
use Rattle.std.specs.Int.{w64}
use Rattle.std.proofs.lemmas.Int.{to_z-of_z}
use Rattle.f3_cases.specs.Inner.Ranges.{end_of}
use Rattle.f3_cases.proofs.Numbers.{cut_done, thinned_more, first_at, less_test, not_less_test}
use Rattle.f3_cases.proofs.union.cut.Goals as goal

pub returns-then-high-last : goal.returns-then-high-last
returns-then-high-last c =
    let low : FitsSigned w64 c.args.low = c.ranges.low in
    let high : FitsSigned w64 c.args.high = c.ranges.high in
    let p : FitsSigned w64 c.in-Some.last = search rules in
    cut_done (end_of c.args.ranges.now) (end_of c.loop-first.ranges) c.args.low c.args.high c.in-Some.first c.in-Some.last c.requires (simp to_z-of_z at c.loop-first.invariant)
    (first_at _ _ _ _ (to_z-of_z w64 c.args.low low) c.in-Some.ensures)
    (less_test c.args.high c.in-Some.last _ _ (to_z-of_z w64 c.args.high high) (to_z-of_z w64 c.in-Some.last p) c.if-high-last.true)

pub loop-first-preserved : goal.loop-first-preserved
loop-first-preserved c =
    let low : FitsSigned w64 c.args.low = c.ranges.low in
    let high : FitsSigned w64 c.args.high = c.ranges.high in
    let p : FitsSigned w64 c.in-Some.last = search rules in
    let q : FitsSigned w64 c.in-Some.first = search rules in
    simp to_z-of_z (thinned_more (end_of c.args.ranges.now) (end_of c.loop-first.ranges) (end_of c.remove.new.self) c.args.low c.args.high c.in-Some.first c.in-Some.last
    (first_at _ _ _ _ (to_z-of_z w64 c.args.low low) c.in-Some.ensures)
    (not_less_test c.args.high c.in-Some.last _ _ (to_z-of_z w64 c.args.high high) (to_z-of_z w64 c.in-Some.last p) c.if-high-last.false)
    (λ k. simp to_z-of_z at (c.remove.ensures.updates.0 k))
    (simp to_z-of_z at c.loop-first.invariant))
