use Rattle.std.proofs.Common.{arith, ap, ◌∙◌, nat_eq, map, filter, length, List}
use Rattle.std.specs.List.{flat_map}
use Rattle.std.proofs.lemmas.List.{take_all}
use Rattle.f3_scopes.specs.Given.{protects_in}
use Rattle.f3_tree.specs.declared.expression.Name.{Name}
use Rattle.f3_tree.specs.declared.declaration.Specification.{Specification}
use Rattle.f3_tree.specs.Declarations.{specification_view}
use Rattle.f3_declared.specs.Standings.{standing}
use Rattle.f3_declared.proofs.Counting.{listed_more}
use Rattle.f3_declared.proofs.spots.counted_listings.Goals as goal

pub loop-specification-preserved : goal.loop-specification-preserved
loop-specification-preserved c = λ q.
    c.in_ok-add_listings.ensures q _ (c.loop-specification.invariant q)
    ∙ ap standing (listed_more (nat_eq q) specification_view protects_in c.args.part.now c.loop-specification.specification-index c.specification-item.result c.loop-specification-test.true c.specification-item.is)

pub invariant_of-result : goal.invariant_of-result
invariant_of-result c = record {
  counted = λ q.
      c.loop-specification.invariant q
      ∙ ap (λ (ys : List Specification). standing (length (filter (nat_eq q) (map (λ (m : Name). m.symbol) (flat_map protects_in (map specification_view ys))))))
      (take_all c.loop-specification.specification-index c.args.part.now (omega (arith, c.loop-specification-test.false)));
}
