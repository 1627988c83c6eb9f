use Rattle.std.proofs.Common.{◌≡◌, ◌++◌, map, drop}
use Rattle.f3_tree.specs.Tree.{procedure_view}
use Rattle.f3_declared.specs.Scenery.{names_in}
use Rattle.f3_natures.specs.Walk.{end_of}
use Rattle.f3_finals.specs.Inner.Candidates.{candidates_from}
use Rattle.f3_finals.proofs.candidate.candidates.Given as goal

abbrev pub invariant-loop-procedure : goal.invariant-loop-procedure
invariant-loop-procedure l = record {
  next : end_of l.next (map procedure_view (drop l.procedure-index l.procedures)) ≡ end_of l.scope (map procedure_view l.procedures);
  found : l.found.items ++ candidates_from (names_in l.known l.scenery) l.next (map procedure_view (drop l.procedure-index l.procedures))
      ≡ candidates_from (names_in l.known l.scenery) l.scope (map procedure_view l.procedures);
}
