use Rattle.std.proofs.Common.{◌≡◌, ◌++◌, map, filter, drop}
use Rattle.f3_tree.specs.Declarations.{specification_view}
use Rattle.f3_elaboration.specs.DeclaredViews.{declared_view}
use Rattle.f3_declaration_nodes.specs.Tables.{declared_by}
use Rattle.f3_variable_nodes.specs.Headers.{symbols_of}
use Rattle.f3_variable_nodes.specs.Locals.{is_local_beside, trees}
use Rattle.f3_variable_nodes.proofs.locals.part_locals.Given as goal

abbrev pub invariant-loop-specification : goal.invariant-loop-specification
invariant-loop-specification l =
    map declared_view l.found.items
    ++ map (declared_by l.fn.whole l.fn.home.unit l.fn.home.scope)
    (filter (is_local_beside (symbols_of l.fn.home.names.now)) (trees (map specification_view (drop l.specification-index l.fn.list))))
    ≡ map (declared_by l.fn.whole l.fn.home.unit l.fn.home.scope)
    (filter (is_local_beside (symbols_of l.fn.home.names.now)) (trees (map specification_view l.fn.list)))
