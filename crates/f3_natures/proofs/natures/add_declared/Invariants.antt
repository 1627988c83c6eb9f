use Rattle.std.proofs.Common.{◌≡◌, ◌++◌, map, drop}
use Rattle.f3_tree.specs.Declarations.{entity_view, declaration_view}
use Rattle.f3_type_rules.specs.Natures.{declared_nature}
use Rattle.f3_typed_parts.specs.Known.{nature_of}
use Rattle.f3_natures.specs.Known.{names_view}
use Rattle.f3_natures.proofs.natures.add_declared.Given as goal

abbrev pub invariant-loop-entity : goal.invariant-loop-entity
invariant-loop-entity l =
    map nature_of l.things.items ++ map (declared_nature (names_view l.fn.names) l.fn.scope (declaration_view l.fn.declaration)) (map entity_view (drop l.entity-index l.entity-items))
    ≡ map nature_of l.fn.things.items ++ map (declared_nature (names_view l.fn.names) l.fn.scope (declaration_view l.fn.declaration)) (declaration_view l.fn.declaration).entities
