use Rattle.std.proofs.Common.{List, map, filter}
use Rattle.f3_tree.specs.declared.declaration.Specification.{Specification}
use Rattle.f3_tree.specs.Declarations.{specification_view}
use Rattle.f3_declaration_nodes.specs.Tables.{declared_by}
use Rattle.f3_variable_nodes.specs.Headers.{symbols_of}
use Rattle.f3_variable_nodes.specs.Locals.{is_local_beside, trees, trees_in}
use Rattle.f3_variable_nodes.proofs.Walking.{grown, picked}
use Rattle.f3_variable_nodes.proofs.locals.part_locals.Goals as goal

pub loop-specification-preserved : goal.loop-specification-preserved
loop-specification-preserved c =
    let f = declared_by c.args.whole c.args.home.unit c.args.home.scope in
    let p = is_local_beside (symbols_of c.args.home.names.now) in
    grown (λ (s : Specification). map f (filter p (trees_in (specification_view s))))
    (λ (ss : List Specification). map f (filter p (trees (map specification_view ss))))
    (λ s ss. picked f p (trees_in (specification_view s)) (trees (map specification_view ss)))
    c.args.list.now c.loop-specification.specification-index c.specification-item.result _ _ _ c.loop-specification-test.true c.specification-item.is
    c.in_ok-add_specification.ensures c.loop-specification.invariant
