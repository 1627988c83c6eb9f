use Rattle.std.proofs.Common.{◌≡◌, map, drop}
use Rattle.f3_tree.specs.Declarations.{placed_view}
use Rattle.f3_scopes.specs.Given.{accesses_of}
use Rattle.f3_type_rules.specs.Names.{is_private_by}
use Rattle.f3_declaration_nodes.proofs.components.is_private_by.Given as goal

abbrev pub invariant-loop-attribute : goal.invariant-loop-attribute
invariant-loop-attribute l =
    is_private_by l.default (accesses_of (map placed_view (drop l.attribute-index l.list)))
    ≡ is_private_by l.default (accesses_of (map placed_view l.list))
