-- Declared names of a specification part, and which of them are variables of the activations of a procedure.
use Rattle.std.specs.Prelude.{ℕ, Bool, not, ◌&&◌, ◌||◌, List, [], map}
use Rattle.std.specs.Prelude.{◌∷◌, ◌++◌}
use Rattle.std.specs.List.{flat_map}
use Rattle.f3_scopes.specs.Scopes.{result_of}
use Rattle.f3_tree.specs.declared.expression.Name.{Name}
use Rattle.f3_tree.specs.Declarations.{parameter, save, EntityTree, SpecificationTree, declares}
use Rattle.f3_tree.specs.Tree.{HeaderTree}
use Rattle.f3_kinds.specs.Things.{map_or}
use Rattle.f3_type_rules.specs.Attributes.{has}
use Rattle.f3_type_rules.specs.Names.{is_given, Declared}
use Rattle.f3_type_rules.specs.Walks.{is_among}

-- the names that a specification part declares, with their declarations
abbrev pub trees_in : SpecificationTree → List Declared
trees_in (declares d) = map (λ (x : EntityTree). (d, x)) d.entities
trees_in _ = []

abbrev pub trees : List SpecificationTree → List Declared
trees ss = flat_map trees_in ss

abbrev pub is_variable_by : Declared → Bool
is_variable_by x = not (has parameter x.0)

abbrev pub is_saved_by : Declared → Bool
is_saved_by x = has save x.0 || is_given (x.1).initial

-- the symbols of a header: of its dummies, and of its result
abbrev pub header_symbols : HeaderTree → List ℕ
header_symbols h = map (λ (n : Name). n.symbol) (h.dummies ++ map_or [] (λ (n : Name). n ∷ []) (result_of h.kind h.name))

-- whether a declared name is a variable of each activation, beside those that the header names
abbrev pub is_local_beside : (symbols : List ℕ) → Declared → Bool
is_local_beside symbols x = is_variable_by x && (not (is_saved_by x) && not (is_among symbols x.1))
