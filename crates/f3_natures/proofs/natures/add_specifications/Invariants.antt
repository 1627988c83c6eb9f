use Rattle.std.proofs.Common.{◌≡◌, ◌++◌, map, drop, length}
use Rattle.f3_tree.specs.Declarations.{specification_view}
use Rattle.f3_typed_parts.specs.Known.{nature_of}
use Rattle.f3_natures.specs.Known.{names_view}
use Rattle.f3_natures.specs.Walk.{is_final, made_all}
use Rattle.f3_natures.proofs.natures.add_specifications.Given as goal

abbrev pub invariant-loop-specification : goal.invariant-loop-specification
invariant-loop-specification l =
    map nature_of l.things.items ++ made_all (names_view l.names) l.scope (is_final (names_view l.names) l.scope l.first l.finals) (length l.things.items) (map specification_view (drop l.specification-index l.list))
    ≡ map nature_of l.fn.things.items ++ made_all (names_view l.names) l.scope (is_final (names_view l.names) l.scope l.first l.finals) (length l.fn.things.items) (map specification_view l.list)
