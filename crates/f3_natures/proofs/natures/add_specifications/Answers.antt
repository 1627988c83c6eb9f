use Rattle.std.proofs.Common.{ℕ, map, refl, rules, List}
use Rattle.f3_tree.specs.declared.declaration.Specification.{Specification}
use Rattle.f3_tree.specs.Declarations.{specification_view}
use Rattle.f3_typed_parts.specs.Known.{nature_of}
use Rattle.f3_natures.specs.Known.{names_view}
use Rattle.f3_natures.specs.Walk.{is_final, made_one, made_all}
use Rattle.f3_natures.proofs.Growing.{numbered_more}
use Rattle.f3_natures.proofs.natures.add_specifications.Goals as goal

pub loop-specification-preserved : goal.loop-specification-preserved
loop-specification-preserved c =
    let names = names_view c.args.names.now in
    let has = is_final names c.args.scope c.args.first c.args.finals.now in
    numbered_more nature_of (λ (n : ℕ) (s : Specification). made_one names c.args.scope has n (specification_view s))
    (λ (n : ℕ) (ss : List Specification). made_all names c.args.scope has n (map specification_view ss)) (λ n s ss. refl)
    c.args.list.now c.loop-specification.specification-index c.specification-item.result c.loop-specification.things.items c.add_specification.new.things.items _
    c.loop-specification-test.true c.specification-item.is (search rules) c.loop-specification.invariant
