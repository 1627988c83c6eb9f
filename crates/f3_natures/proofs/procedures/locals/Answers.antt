use Rattle.std.proofs.Common.{map, refl, rules, List}
use Rattle.f3_tree.specs.declared.declaration.Specification.{Specification}
use Rattle.f3_tree.specs.Declarations.{specification_view}
use Rattle.f3_natures.specs.Known.{names_view}
use Rattle.f3_natures.specs.Procedures.{described_in, described_all}
use Rattle.f3_natures.proofs.First.{entries_step}
use Rattle.f3_natures.proofs.procedures.locals.Goals as goal

pub loop-specification-preserved : goal.loop-specification-preserved
loop-specification-preserved c =
    let names = names_view c.args.names.now in
    entries_step (λ (s : Specification). described_in names c.args.scope (specification_view s))
    (λ (ss : List Specification). described_all names c.args.scope (map specification_view ss)) (λ s ss. refl)
    c.args.list.now c.loop-specification.specification-index c.specification-item.result c.loop-specification.found.entries c.add_specification.new.found.entries _
    c.loop-specification-test.true c.specification-item.is (search rules) c.loop-specification.invariant
