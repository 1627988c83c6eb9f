use Rattle.std.proofs.Common.{◌≡◌, ◌++◌, map, drop}
use Rattle.std.specs.List.{flat_map}
use Rattle.f3_scopes.specs.Scopes.{components_of}
use Rattle.f3_tree.specs.Declarations.{declaration_view}
use Rattle.f3_scopes.specs.Outlines.{part_view}
use Rattle.f3_scopes.proofs.lists.components.Given as goal

abbrev pub invariant-loop-declaration : goal.invariant-loop-declaration
invariant-loop-declaration l = map part_view l.found.items ++ flat_map components_of (map declaration_view (drop l.declaration-index l.list)) ≡ flat_map components_of (map declaration_view l.list)
