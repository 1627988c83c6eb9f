-- What the entities of a program are where two parts of a type, or two dummies of a procedure, may have one name: of these the first counts.
use Rattle.std.specs.Prelude.{ℕ, Bool, true, not, ◌&&◌, nat_eq, List, [], ◌∷◌, map, IsTrue}
use Rattle.std.specs.List.{flat_map, list_any, list_all}
use Rattle.f3_tree.specs.declared.expression.Name.{Name}
use Rattle.f3_tree.specs.Declarations.{EntityTree, DeclarationTree, SpecificationTree, defines}
use Rattle.f3_tree.specs.Tree.{ProcedureTree, UnitTree, Tree}
use Rattle.f3_kinds.specs.Things.{Nature, constant, variable, derived, subroutine, function}
use Rattle.f3_scopes.specs.Scopes.{scopes_of}
use Rattle.f3_type_rules.specs.Names.{Names}
use Rattle.f3_type_rules.specs.Members.{units_from}
use Rattle.f3_type_rules.specs.Natures.{unit_natures}
use Rattle.f3_natures.specs.Entries.{firsts}

-- what the entities of a program are, in order
abbrev pub natures_of : Names → Tree → List Nature
natures_of names t = flat_map (unit_natures names) (units_from (scopes_of t) 0 t.units)

abbrev pub kept : Nature → Nature
kept (constant o) = constant o
kept (variable o) = variable o
kept (derived home ks f) = derived home (firsts ks) f
kept (subroutine pure ds) = subroutine pure (firsts ds)
kept (function pure ds o) = function pure (firsts ds) o

-- no number stands twice
abbrev pub are_distinct : List ℕ → Bool
are_distinct [] = true
are_distinct (x ∷ xs) = not (list_any (nat_eq x) xs) && are_distinct xs

abbrev pub names_in : DeclarationTree → List ℕ
names_in d = map (λ (x : EntityTree). (x.name).symbol) d.entities

abbrev pub has_distinct_components : SpecificationTree → Bool
has_distinct_components (defines t) = are_distinct (flat_map names_in t.components)
has_distinct_components _ = true

abbrev pub has_distinct_dummies : ProcedureTree → Bool
has_distinct_dummies p = are_distinct (map (λ (n : Name). n.symbol) (p.header).dummies)

abbrev pub is_procedure_distinct : ProcedureTree → Bool
is_procedure_distinct p = has_distinct_dummies p && list_all has_distinct_components (p.part).specifications

abbrev pub is_unit_distinct : UnitTree → Bool
is_unit_distinct u = list_all has_distinct_components (u.part).specifications && list_all is_procedure_distinct u.procedures

-- No two components of a type have one name, nor two dummies of a procedure (ISO/IEC 1539-1:2004, 16.2, 16.3).
abbrev pub HasDistinctParts : Tree → Type 0
HasDistinctParts t = IsTrue (list_all is_unit_distinct t.units)
