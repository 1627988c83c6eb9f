use Rattle.std.proofs.Common.{◌≡◌, ◌++◌, map, drop}
use Rattle.f3_tree.specs.Declarations.{part_tree, use_view}
use Rattle.f3_graph.specs.Units.{used_in}
use Rattle.f3_graph.proofs.unit.add_uses.Given as goal

abbrev pub invariant-loop-statement : goal.invariant-loop-statement
invariant-loop-statement l =
    l.names.items ++ map (λ u. u.from) (map use_view (drop l.statement-index l.statement-items)) ≡ l.fn.names.items ++ used_in (part_tree l.part)
