use Rattle.std.proofs.Common.{◌≡◌, map, length}
use Rattle.f3_access.specs.Access.{first_entity}
use Rattle.f3_scopes.specs.Outlines.{scope_view}
use Rattle.f3_part_rules.specs.Members.{AreFirsts}
use Rattle.f3_unit_rules.proofs.firsts.firsts.Given as goal

abbrev pub invariant-loop-outline : goal.invariant-loop-outline
invariant-loop-outline l = record {
  next : l.next ≡ first_entity (map scope_view l.outlines) l.outline-index;
  count : length l.found.items ≡ l.outline-index;
  each : AreFirsts (map scope_view l.outlines) l.found.items;
}
