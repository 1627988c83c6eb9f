use Rattle.std.proofs.Common.{rules, FitsSigned}
use Rattle.std.specs.Int.{w64}
use Rattle.std.proofs.lemmas.Int.{to_z-of_z}
use Rattle.f3_cases.specs.Inner.Ranges.{end_of}
use Rattle.f3_cases.proofs.Numbers.{reaches_test}
use Rattle.f3_cases.proofs.union.reaches.Goals as goal

pub returns-in-Some : goal.returns-in-Some
returns-in-Some c =
    let p : FitsSigned w64 c.in-Some.last = search rules in
    reaches_test (end_of c.args.ranges.now) c.args.low _ c.args.high _ _ c.in-Some.last _ (to_z-of_z w64 _ c.ranges.low) (to_z-of_z w64 _ c.ranges.high) (to_z-of_z w64 _ p) c.requires c.in-Some.ensures
