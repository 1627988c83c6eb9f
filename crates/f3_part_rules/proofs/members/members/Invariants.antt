use Rattle.std.proofs.Common.{◌≡◌, ℕ, drop, map, vec_len, List}
use Rattle.f3_scopes.specs.Outlines.{Scope}
use Rattle.f3_tree.specs.Tree.{procedure_view}
use Rattle.f3_typed_parts.specs.Noted.{noted}
use Rattle.f3_type_rules.specs.Declarations.{member_rows, member_next}
use Rattle.f3_type_rules.specs.Members.{members_from}
use Rattle.f3_type_rules.specs.Scene.{Scene}
use Rattle.f3_type_rules.specs.Walks.{after, along, Known}
use Rattle.f3_entities.specs.Growth.{Stands}
use Rattle.f3_part_rules.specs.Members.{AreFirsts, Fit}
use Rattle.f3_part_rules.specs.Inner.Reaching.{Reaches}
use Rattle.f3_part_rules.proofs.members.members.Given as goal

abbrev pub invariant-loop-given : goal.invariant-loop-given
invariant-loop-given l = record {
  fit : Fit l.firsts (vec_len l.fn.growth.known.values) l.next (map procedure_view (drop l.given-index l.list));
  reached : (s : Scene) → (k : Known) → (scopes : List Scope) → (e : ℕ) → Stands s l.fn.growth k → AreFirsts scopes l.firsts
      → Reaches s l.unit scopes l.growth l.first l.next (map procedure_view (drop l.given-index l.list))
      (noted l.fn.first (along (member_rows s l.unit) (member_next s l.unit) k (members_from scopes e l.scope (map procedure_view l.list))))
      (after (member_next s l.unit) k (members_from scopes e l.scope (map procedure_view l.list)));
  values : vec_len l.growth.known.values ≡ vec_len l.fn.growth.known.values;
  cells : vec_len l.growth.cells ≡ vec_len l.fn.growth.cells;
}
