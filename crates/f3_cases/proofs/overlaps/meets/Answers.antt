use Rattle.std.proofs.Common.{rules, FitsSigned}
use Rattle.std.specs.Int.{w64}
use Rattle.std.proofs.lemmas.Int.{to_z-of_z}
use Rattle.f3_cases.specs.Inner.Ranges.{end_of}
use Rattle.f3_cases.proofs.Seeing.{none_meets, reaches_stored}
use Rattle.f3_cases.proofs.overlaps.meets.Goals as goal

pub returns-in-Nothing : goal.returns-in-Nothing
returns-in-Nothing c = λ spans sees. rw c.in-Nothing.is (none_meets spans)

pub returns-in-Numbers : goal.returns-in-Numbers
returns-in-Numbers c = λ spans sees.
    let low : FitsSigned w64 c.low_end-low.result = search rules in
    let high : FitsSigned w64 c.high_end-high.result = search rules in
    rw c.in-Numbers.is (reaches_stored spans (end_of c.args.seen.now.ranges) c.args.seen.now.truth c.args.seen.now.falsehood c.reaches.result c.in-Numbers.low c.in-Numbers.high c.low_end-low.result c.high_end-high.result
    c.low_end-low.ensures c.high_end-high.ensures low high sees (simp to_z-of_z at c.reaches.ensures))
