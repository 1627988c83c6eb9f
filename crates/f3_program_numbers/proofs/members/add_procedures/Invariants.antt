use Rattle.std.proofs.Common.{◌≡◌, ◌+◌, ◌++◌, map, drop}
use Rattle.f3_tree.specs.Tree.{procedure_view}
use Rattle.f3_program_numbers.specs.Walks.{counted}
use Rattle.f3_program_numbers.proofs.members.add_procedures.Given as goal

abbrev pub invariant-loop-procedure : goal.invariant-loop-procedure
invariant-loop-procedure l = record {
  number : l.next ≡ l.entity + l._procedure-index;
  items : l.found.items ++ counted l.next (map procedure_view (drop l._procedure-index l.list)) ≡ l.fn.found.items ++ counted l.entity (map procedure_view l.list);
}
