use Rattle.std.proofs.Common.{◌≡◌, ◌++◌, List, map, drop}
use Rattle.f3_scopes.specs.Outlines.{Scope}
use Rattle.f3_tree.specs.Tree.{procedure_view}
use Rattle.f3_unit_rules.specs.Members.{AreFirsts}
use Rattle.f3_program_numbers.specs.Chosen.{choice_of}
use Rattle.f3_program_numbers.specs.Fitting.{MembersFit}
use Rattle.f3_program_numbers.specs.Walks.{members_by}
use Rattle.f3_program_numbers.proofs.members.add_members.Given as goal

abbrev pub invariant-loop-procedure : goal.invariant-loop-procedure
invariant-loop-procedure l = record {
  fit : MembersFit l.firsts l.next (map procedure_view (drop l.procedure-index l.list));
  items : (scopes : List Scope) → AreFirsts scopes l.firsts
      → l.found.items ++ members_by (choice_of l.wanted) scopes l.next (map procedure_view (drop l.procedure-index l.list))
      ≡ l.fn.found.items ++ members_by (choice_of l.wanted) scopes l.scope (map procedure_view l.list);
}
