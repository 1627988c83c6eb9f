use Rattle.std.proofs.Common.{◌≡◌, List, map, take}
use Rattle.std.specs.List.{flat_map}
use Rattle.f3_scopes.specs.Outlines.{Scope}
use Rattle.f3_tree.specs.Tree.{unit_view}
use Rattle.f3_type_rules.specs.Members.{units_from}
use Rattle.f3_unit_rules.specs.Members.{AreFirsts}
use Rattle.f3_unit_rules.specs.Units.{AreNumbers}
use Rattle.f3_program_numbers.specs.Walks.{statics_by}
use Rattle.f3_program_numbers.proofs.units.statics.Given as goal

abbrev pub invariant-loop-number : goal.invariant-loop-number
invariant-loop-number l =
    (scopes : List Scope) → AreFirsts scopes l.firsts → AreNumbers scopes l.numbers (map unit_view l.list)
    → l.found.items ≡ flat_map statics_by (take l.number (units_from scopes 0 (map unit_view l.list)))
