use Rattle.std.proofs.Common.{refl, map, List}
use Rattle.f3_tree.specs.declared.declaration.Specification.{Specification}
use Rattle.f3_tree.specs.Declarations.{specification_view}
use Rattle.f3_type_rules.specs.Names.{entries, entries_in}
use Rattle.f3_finals.specs.Inner.Candidates.{found_view}
use Rattle.f3_finals.proofs.Found.{found_more, found_here}
use Rattle.f3_finals.proofs.candidate.find.Goals as goal

pub returns-in-Some : goal.returns-in-Some
returns-in-Some c =
    found_here c.args.symbol (λ (s : Specification). entries_in (specification_view s)) (λ (ss : List Specification). entries (map specification_view ss)) (λ s ss. refl)
    c.args.part.now c.loop-specification.specification-index c.specification-item.result (found_view c.in-Some.found) _
    c.loop-specification-test.true c.specification-item.is c.in-Some.ensures c.loop-specification.invariant

pub loop-specification-preserved : goal.loop-specification-preserved
loop-specification-preserved c =
    found_more c.args.symbol (λ (s : Specification). entries_in (specification_view s)) (λ (ss : List Specification). entries (map specification_view ss)) (λ s ss. refl)
    c.args.part.now c.loop-specification.specification-index c.specification-item.result _
    c.loop-specification-test.true c.specification-item.is c.in-None.ensures c.loop-specification.invariant
