use Rattle.std.proofs.Common.{FitsSigned}
use Rattle.std.specs.Int.{w64}
use Rattle.std.proofs.lemmas.Int.{to_z-of_z}
use Rattle.f3_cases.specs.Inner.Ranges.{end_of}
use Rattle.f3_cases.proofs.Numbers.{grown, refused}
use Rattle.f3_cases.proofs.union.put.Goals as goal

pub returns : goal.returns
returns c =
    let low : FitsSigned w64 c.args.low = c.ranges.low in
    let high : FitsSigned w64 c.args.high = c.ranges.high in
    grown (end_of c.args.ranges.now) (end_of c.cut.new.ranges) (end_of c.insert.new.self) c.args.low c.args.high c.requires
    (refused c.reaches.result _ c.if-reaches.false (simp to_z-of_z at c.reaches.ensures)) (simp to_z-of_z at c.cut.ensures) (λ k. simp to_z-of_z at (c.in_ok-insert.ensures.updates.0 k))
