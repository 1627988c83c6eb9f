use Rattle.std.proofs.Common.{List, map, refl, arith}
use Rattle.f3_tree.specs.declared.declaration.Specification.{Specification}
use Rattle.f3_tree.specs.Declarations.{specification_view}
use Rattle.f3_type_rules.specs.Names.{entries, entries_in}
use Rattle.f3_variable_nodes.proofs.Entries.{looked_more, looked_all}
use Rattle.f3_variable_nodes.proofs.declarations.declarations.Goals as goal

pub loop-specification-preserved : goal.loop-specification-preserved
loop-specification-preserved c = λ k.
    looked_more k (λ (s : Specification). entries_in (specification_view s)) (λ (ss : List Specification). entries (map specification_view ss)) (λ s ss. refl)
    c.args.list.now c.loop-specification.specification-index c.specification-item.result _ _ _ c.loop-specification-test.true c.specification-item.is
    (c.in_ok-add_specification.ensures k) (c.loop-specification.invariant k)

pub returns : goal.returns
returns c = λ k.
    looked_all k (λ (ss : List Specification). entries (map specification_view ss)) c.args.list.now c.loop-specification.specification-index _ _
    (omega (arith, c.loop-specification-test.false)) refl (c.loop-specification.invariant k)
