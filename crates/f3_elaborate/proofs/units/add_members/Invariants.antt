use Rattle.std.proofs.Common.{◌≡◌, ◌++◌, List, map, drop}
use Rattle.f3_scopes.specs.Outlines.{Scope}
use Rattle.f3_tree.specs.Tree as trees
use Rattle.f3_sites.specs.Sites.{site_of}
use Rattle.f3_associates.specs.Known.{IsSettled}
use Rattle.f3_types.specs.Members.{AreFirsts}
use Rattle.f3_program_numbers.specs.Fitting.{MembersFit}
use Rattle.f3_elaboration.specs.Declarations.{Whole}
use Rattle.f3_elaboration.specs.DeclaredViews.{procedure_view}
use Rattle.f3_elaborate.specs.Inner.Knows.{Knows}
use Rattle.f3_elaborate.proofs.Members.{nodes_by}
use Rattle.f3_elaborate.proofs.units.add_members.Given as goal

abbrev pub invariant-loop-given : goal.invariant-loop-given
invariant-loop-given l = record {
  fit : MembersFit l.firsts l.next (map trees.procedure_view (drop l.given-index l.list));
  settled : IsSettled (site_of l.state.site);
  knows : (w : Whole) → Knows l.walk.scenery l.fn.state w → Knows l.walk.scenery l.state w;
  items : (w : Whole) (scopes : List Scope) → Knows l.walk.scenery l.fn.state w → AreFirsts scopes l.walk.firsts.now
      → map procedure_view l.found.items ++ nodes_by w l.unit scopes l.next (map trees.procedure_view (drop l.given-index l.list))
      ≡ map procedure_view l.fn.found.items ++ nodes_by w l.unit scopes l.scope (map trees.procedure_view l.list);
}
