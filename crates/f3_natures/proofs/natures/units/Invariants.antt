use Rattle.std.proofs.Common.{◌≡◌, ◌++◌, map, drop, length}
use Rattle.f3_tree.specs.Tree.{unit_view}
use Rattle.f3_typed_parts.specs.Known.{nature_of}
use Rattle.f3_natures.specs.Known.{names_view}
use Rattle.f3_natures.specs.Walk.{units_end, units_made}
use Rattle.f3_natures.proofs.natures.units.Given as goal

abbrev pub invariant-loop-unit : goal.invariant-loop-unit
invariant-loop-unit l = record {
  scopes : units_end l.scope (map unit_view (drop l.unit-index l.list)) ≡ units_end 0 (map unit_view l.list);
  things : map nature_of l.things.items ++ units_made (names_view l.names) (length l.things.items) l.scope (map unit_view (drop l.unit-index l.list))
      ≡ units_made (names_view l.names) 0 0 (map unit_view l.list);
}
