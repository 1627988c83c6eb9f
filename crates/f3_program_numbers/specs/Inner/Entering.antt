-- What is numbered inside a procedure or the main program, by its scope and its first entity.
use Rattle.std.specs.Prelude.{ℕ, true, false, List, [], ◌∷◌, ◌++◌, map}
use Rattle.f3_lookups.specs.declared.lookup.Lookup.{Lookup}
use Rattle.f3_scopes.specs.Scopes.{result_of}
use Rattle.f3_tree.specs.declared.expression.Name.{Name}
use Rattle.f3_tree.specs.Tree.{ProcedureTree, UnitTree}
use Rattle.f3_kinds.specs.Things.{map_or}
use Rattle.f3_elaboration.specs.Numbers.{entity_of, Inner}
use Rattle.f3_program_numbers.specs.Chosen.{Choice, taken_along}
use Rattle.f3_program_numbers.specs.Walks.{taken_by}

abbrev pub entities_of : (look : ℕ → ℕ → Lookup) → (scope : ℕ) → List Name → List ℕ
entities_of look scope ns = map (λ (n : Name). entity_of (look scope n.symbol)) ns

abbrev pub result_names : ProcedureTree → List Name
result_names p = map_or [] (λ (n : Name). n ∷ []) (result_of (p.header).kind (p.header).name)

abbrev pub local_in : (header : List Name) → Choice
local_in ns = record { saved = false; unsaved = true; header = map (λ (n : Name). n.symbol) ns }

abbrev pub member_inner : (look : ℕ → ℕ → Lookup) → (scope first : ℕ) → ProcedureTree → Inner
member_inner look scope first p = record {
  variables = taken_by (local_in ((p.header).dummies ++ result_names p)) first p ++ entities_of look scope (result_names p);
  lent = entities_of look scope (p.header).dummies;
}

abbrev pub main_inner : (first : ℕ) → UnitTree → Inner
main_inner first u = record { variables = taken_along (local_in []) first (u.part).specifications; lent = [] }
