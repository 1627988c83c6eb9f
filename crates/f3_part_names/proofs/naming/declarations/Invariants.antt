use Rattle.std.proofs.Common.{◌≡◌, ◌++◌, map, drop}
use Rattle.std.specs.List.{flat_map}
use Rattle.f3_tree.specs.Declarations.{declaration_view}
use Rattle.f3_part_names.specs.Names.{named_declaration}
use Rattle.f3_part_names.proofs.naming.declarations.Given as goal

abbrev pub invariant-loop-one : goal.invariant-loop-one
invariant-loop-one l = l.names.items ++ flat_map named_declaration (map declaration_view (drop l.one-index l.list)) ≡ l.fn.names.items ++ flat_map named_declaration (map declaration_view l.list)
