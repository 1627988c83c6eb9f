use Rattle.std.proofs.Common.{◌≡◌, ◌++◌, List, map, drop}
use Rattle.f3_scopes.specs.Outlines.{Scope}
use Rattle.f3_tree.specs.Tree.{unit_view}
use Rattle.f3_type_rules.specs.Members.{units_from}
use Rattle.f3_elaboration.specs.Declarations.{Whole}
use Rattle.f3_elaboration.specs.DeclaredViews.{derived_view}
use Rattle.f3_elaboration.specs.Numbers.{Inner}
use Rattle.f3_type_nodes.specs.Inner.Units.{AreHere}
use Rattle.f3_type_nodes.proofs.Walks.{types_of}
use Rattle.f3_type_nodes.proofs.units.types_along.Given as goal

abbrev pub invariant-loop-unit : goal.invariant-loop-unit
invariant-loop-unit l =
    (w : Whole) (inner : Inner) (scopes : List Scope) → AreHere l.fn.whole l.firsts l.numbers (map unit_view l.list) w inner scopes
    → map derived_view l.found.items ++ types_of w (units_from scopes 0 (map unit_view l.list)) (drop l.unit-index l.unit-items)
    ≡ types_of w (units_from scopes 0 (map unit_view l.list)) l.unit-items
