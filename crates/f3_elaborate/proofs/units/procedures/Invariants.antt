use Rattle.std.proofs.Common.{◌≡◌, List, map, take}
use Rattle.std.specs.List.{flat_map}
use Rattle.f3_scopes.specs.Outlines.{Scope}
use Rattle.f3_tree.specs.Tree.{unit_view}
use Rattle.f3_sites.specs.Sites.{site_of}
use Rattle.f3_associates.specs.Known.{IsSettled}
use Rattle.f3_type_rules.specs.Members.{units_from}
use Rattle.f3_types.specs.Members.{AreFirsts}
use Rattle.f3_types.specs.Units.{AreNumbers}
use Rattle.f3_elaboration.specs.Declarations.{Whole}
use Rattle.f3_elaboration.specs.DeclaredViews.{procedure_view}
use Rattle.f3_elaborate.specs.Inner.Knows.{Knows}
use Rattle.f3_elaborate.specs.Inner.Units.{procedures_in}
use Rattle.f3_elaborate.proofs.units.procedures.Given as goal

abbrev pub invariant-loop-number : goal.invariant-loop-number
invariant-loop-number l = record {
  settled : IsSettled (site_of l.state.site);
  knows : (w : Whole) → Knows l.walk.scenery l.fn.state w → Knows l.walk.scenery l.state w;
  items : (w : Whole) (scopes : List Scope) → Knows l.walk.scenery l.fn.state w → AreFirsts scopes l.walk.firsts.now → AreNumbers scopes l.numbers (map unit_view l.list)
      → map procedure_view l.found.items ≡ flat_map (procedures_in w) (take l.number (units_from scopes 0 (map unit_view l.list)));
}
