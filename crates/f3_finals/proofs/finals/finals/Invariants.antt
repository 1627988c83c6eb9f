use Rattle.std.proofs.Common.{◌≡◌, [], drop}
use Rattle.f3_access.specs.Tables.{lookup_of}
use Rattle.f3_tree.specs.declared.expression.Name.{Name}
use Rattle.f3_type_rules.specs.Finals.{final_rows}
use Rattle.f3_typed_parts.specs.Noted.{noted}
use Rattle.f3_finals.specs.Inner.Looked.{rank_found}
use Rattle.f3_finals.proofs.finals.finals.Given as goal

abbrev pub invariant-loop-name : goal.invariant-loop-name
invariant-loop-name l =
    noted l.first (final_rows (λ (n : Name). rank_found l.first_procedure l.candidates l.data_type (lookup_of l.tables l.scope n.symbol)) l.seen.keys l.ranks.keys (drop l.name-index l.list))
    ≡ noted l.fn.first (final_rows (λ (n : Name). rank_found l.first_procedure l.candidates l.data_type (lookup_of l.tables l.scope n.symbol)) [] [] l.list)
