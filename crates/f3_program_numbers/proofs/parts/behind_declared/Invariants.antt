use Rattle.std.proofs.Common.{◌≡◌, ◌+◌, map, drop, length}
use Rattle.std.specs.List.{flat_map}
use Rattle.f3_scopes.specs.Scopes.{declared_in}
use Rattle.f3_tree.specs.Declarations.{specification_view}
use Rattle.f3_program_numbers.proofs.parts.behind_declared.Given as goal

abbrev pub invariant-loop-specification : goal.invariant-loop-specification
invariant-loop-specification l =
    l.next + length (flat_map declared_in (map specification_view (drop l.specification-index l.list))) ≡ l.first + length (flat_map declared_in (map specification_view l.list))
