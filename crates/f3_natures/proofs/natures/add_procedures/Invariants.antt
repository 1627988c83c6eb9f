use Rattle.std.proofs.Common.{◌≡◌, ◌++◌, map, drop}
use Rattle.f3_tree.specs.Tree.{procedure_view}
use Rattle.f3_typed_parts.specs.Known.{nature_of}
use Rattle.f3_natures.specs.Known.{names_view}
use Rattle.f3_natures.specs.Walk.{end_of, all_finals, all_made, all_inner}
use Rattle.f3_natures.proofs.natures.add_procedures.Given as goal

abbrev pub invariant-loop-procedure : goal.invariant-loop-procedure
invariant-loop-procedure l = record {
  next : end_of l.next (map procedure_view (drop l.procedure-index l.list)) ≡ end_of l.scope (map procedure_view l.list);
  finals : l.finals.items ++ all_finals (names_view l.names) l.next (map procedure_view (drop l.procedure-index l.list)) ≡ l.fn.finals.items ++ all_finals (names_view l.names) l.scope (map procedure_view l.list);
  made : map nature_of l.made.items ++ all_made (names_view l.names) l.next (map procedure_view (drop l.procedure-index l.list))
      ≡ map nature_of l.fn.made.items ++ all_made (names_view l.names) l.scope (map procedure_view l.list);
  inner : map nature_of l.inner.items ++ all_inner (names_view l.names) l.next (map procedure_view (drop l.procedure-index l.list))
      ≡ map nature_of l.fn.inner.items ++ all_inner (names_view l.names) l.scope (map procedure_view l.list);
}
