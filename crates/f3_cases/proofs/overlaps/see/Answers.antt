use Rattle.std.proofs.Common.{rules, FitsSigned}
use Rattle.std.specs.Int.{w64}
use Rattle.std.proofs.lemmas.Int.{to_z-of_z}
use Rattle.f3_cases.specs.Inner.Ranges.{end_of}
use Rattle.f3_cases.proofs.Seeing.{numbers_stored}
use Rattle.f3_cases.proofs.overlaps.see.Goals as goal

pub returns-in_ok-put-in-Numbers : goal.returns-in_ok-put-in-Numbers
returns-in_ok-put-in-Numbers c = λ spans sees.
    let low : FitsSigned w64 c.low_end-low.result = search rules in
    let high : FitsSigned w64 c.high_end-high.result = search rules in
    rw c.in-Numbers.is (numbers_stored spans (end_of c.args.seen.now.ranges) (end_of c.put.new.ranges) c.args.seen.now.truth c.args.seen.now.falsehood c.in-Numbers.low c.in-Numbers.high c.low_end-low.result c.high_end-high.result
    c.low_end-low.ensures c.high_end-high.ensures low high (simp to_z-of_z at c.in_ok-put-in-Numbers.ensures) sees)
