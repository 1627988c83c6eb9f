use Rattle.std.proofs.Common.{◌≡◌, ◌+◌, ◌++◌, map, drop}
use Rattle.f3_tree.specs.Declarations.{declaration_view, entity_view}
use Rattle.f3_program_numbers.specs.Chosen.{choice_of, taken_from}
use Rattle.f3_program_numbers.proofs.parts.add_declared.Given as goal

abbrev pub invariant-loop-declared : goal.invariant-loop-declared
invariant-loop-declared l = record {
  number : l.next ≡ l.entity + l.declared-index;
  items : l.found.items ++ taken_from (choice_of l.wanted) l.next (declaration_view l.declaration) (map entity_view (drop l.declared-index l.declared-items))
      ≡ l.fn.found.items ++ taken_from (choice_of l.wanted) l.entity (declaration_view l.declaration) (declaration_view l.declaration).entities;
}
