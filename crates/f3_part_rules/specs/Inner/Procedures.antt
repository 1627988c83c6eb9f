-- The rules of phase 5 on a procedure, by where it stands.
use Rattle.std.specs.Prelude.{ℕ, ◌+◌, List, [], ◌++◌}
use Rattle.std.specs.List.{flat_map}
use Rattle.f3_rules.specs.declared.breaks.Break.{Break}
use Rattle.f3_tree.specs.Tree.{ProcedureTree}
use Rattle.f3_type_rules.specs.Names.{Declared, entries}
use Rattle.f3_type_rules.specs.Walks.{after, along, Known, Spot}
use Rattle.f3_type_rules.specs.Declarations.{header_rows, local_rows, specification_rows, specification_next}
use Rattle.f3_part_rules.specs.Members.{typed_count}

-- before its specification part, where its first entity has this number
abbrev pub within : Known → (first : ℕ) → ProcedureTree → Known
within k first p = record k { next = first + typed_count (p.header).kind }

abbrev pub procedure_rows : Spot → Known → (first : ℕ) → ProcedureTree → List Break
procedure_rows s k first p =
    header_rows s k (p.header).name (p.header).kind
    ++ (along (specification_rows s []) (specification_next s) (within k first p) (p.part).specifications
    ++ flat_map (λ (x : ℕ × Declared). local_rows s x.1) (entries (p.part).specifications))

abbrev pub procedure_next : Spot → Known → (first : ℕ) → ProcedureTree → Known
procedure_next s k first p = after (specification_next s) (within k first p) (p.part).specifications
