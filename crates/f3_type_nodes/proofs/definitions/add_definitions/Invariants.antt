use Rattle.std.proofs.Common.{◌≡◌, ◌+◌, ◌++◌, map, drop, length}
use Rattle.std.specs.List.{flat_map}
use Rattle.f3_scopes.specs.Scopes.{declared_in}
use Rattle.f3_tree.specs.Declarations.{specification_view}
use Rattle.f3_type_rules.specs.Members.{Numbered}
use Rattle.f3_elaboration.specs.Declarations.{Whole}
use Rattle.f3_elaboration.specs.DeclaredViews.{derived_view}
use Rattle.f3_elaboration.specs.Numbers.{Inner}
use Rattle.f3_type_nodes.specs.Inner.Units.{IsHere}
use Rattle.f3_type_nodes.proofs.Walks.{rest_of}
use Rattle.f3_type_nodes.proofs.definitions.add_definitions.Given as goal

abbrev pub invariant-loop-given : goal.invariant-loop-given
invariant-loop-given l = record {
  next : l.next + length (flat_map declared_in (map specification_view (drop l.given-index l.list))) ≡ l.first + length (flat_map declared_in (map specification_view l.list));
  made : (w : Whole) (inner : Inner) (u : Numbered) → IsHere l.fn.whole l.fn.finalizers l.fn.scope w inner u
      → map derived_view l.found.items ++ rest_of w u l.next (drop l.given-index l.list) ≡ map derived_view l.fn.found.items ++ rest_of w u l.first l.list;
}
