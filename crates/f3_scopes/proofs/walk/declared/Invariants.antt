use Rattle.std.proofs.Common.{◌≡◌, ◌++◌, map, drop}
use Rattle.std.specs.List.{flat_map}
use Rattle.f3_scopes.specs.Scopes.{declared_in}
use Rattle.f3_tree.specs.Declarations.{specification_view}
use Rattle.f3_scopes.specs.Outlines.{own_view}
use Rattle.f3_scopes.proofs.walk.declared.Given as goal

abbrev pub invariant-loop-specification : goal.invariant-loop-specification
invariant-loop-specification l = map own_view l.found.items ++ flat_map declared_in (map specification_view (drop l.specification-index l.list)) ≡ map own_view l.fn.found.items ++ flat_map declared_in (map specification_view l.list)
