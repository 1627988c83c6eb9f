use Rattle.std.proofs.Common.{◌≡◌, ◌+◌, ◌++◌, map, drop, length}
use Rattle.std.specs.List.{flat_map}
use Rattle.f3_scopes.specs.Scopes.{declared_in}
use Rattle.f3_tree.specs.Declarations.{specification_view}
use Rattle.f3_program_numbers.specs.Chosen.{defined_along}
use Rattle.f3_program_numbers.proofs.parts.add_types.Given as goal

abbrev pub invariant-loop-specification : goal.invariant-loop-specification
invariant-loop-specification l = record {
  number : l.next + length (flat_map declared_in (map specification_view (drop l.specification-index l.list)))
      ≡ l.entity + length (flat_map declared_in (map specification_view l.list));
  items : l.found.items ++ defined_along l.next (map specification_view (drop l.specification-index l.list))
      ≡ l.fn.found.items ++ defined_along l.entity (map specification_view l.list);
}
