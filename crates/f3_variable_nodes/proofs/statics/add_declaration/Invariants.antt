use Rattle.std.proofs.Common.{◌≡◌, ◌+◌, ◌++◌, map, filter, drop}
use Rattle.f3_tree.specs.Declarations.{declaration_view, entity_view}
use Rattle.f3_elaboration.specs.DeclaredViews.{static_view}
use Rattle.f3_elaboration.specs.Numbers.{declared_from, is_static_in}
use Rattle.f3_declaration_nodes.specs.Variables.{static_by}
use Rattle.f3_variable_nodes.proofs.statics.add_declaration.Given as goal

abbrev pub invariant-loop-entity : goal.invariant-loop-entity
invariant-loop-entity l = record {
  number : l.number ≡ l.fn.first + l.entity-index;
  found : map static_view l.found.items
      ++ map (static_by l.fn.whole) (filter (is_static_in l.fn.home.kind) (declared_from l.fn.home.unit l.fn.home.scope l.number (declaration_view l.fn.declaration) (map entity_view (drop l.entity-index l.entity-items))))
      ≡ map static_view l.fn.found.items
      ++ map (static_by l.fn.whole) (filter (is_static_in l.fn.home.kind) (declared_from l.fn.home.unit l.fn.home.scope l.fn.first (declaration_view l.fn.declaration) (declaration_view l.fn.declaration).entities));
}
