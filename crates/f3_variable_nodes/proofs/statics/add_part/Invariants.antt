use Rattle.std.proofs.Common.{◌≡◌, ◌+◌, ◌++◌, map, drop, length}
use Rattle.std.specs.List.{flat_map}
use Rattle.f3_scopes.specs.Scopes.{declared_in}
use Rattle.f3_tree.specs.Declarations.{specification_view}
use Rattle.f3_elaboration.specs.DeclaredViews.{static_view}
use Rattle.f3_declaration_nodes.specs.Variables.{static_by}
use Rattle.f3_variable_nodes.specs.Inner.Walk.{part_statics}
use Rattle.f3_variable_nodes.proofs.statics.add_part.Given as goal

abbrev pub invariant-loop-specification : goal.invariant-loop-specification
invariant-loop-specification l = record {
  number : l.number + length (flat_map declared_in (map specification_view (drop l.specification-index l.fn.list)))
      ≡ l.fn.first + length (flat_map declared_in (map specification_view l.fn.list));
  found : map static_view l.found.items
      ++ map (static_by l.fn.whole) (part_statics l.fn.home.kind l.fn.home.unit l.fn.home.scope l.number (map specification_view (drop l.specification-index l.fn.list)))
      ≡ map static_view l.fn.found.items
      ++ map (static_by l.fn.whole) (part_statics l.fn.home.kind l.fn.home.unit l.fn.home.scope l.fn.first (map specification_view l.fn.list));
}
