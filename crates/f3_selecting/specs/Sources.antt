-- Modules by their names, and those that a scope uses.
use Rattle.std.specs.Prelude.{ℕ, ◌+◌, List, [], ◌∷◌, Option, Some, ◌&&◌, ◌==◌, nat_eq, if◌then◌else◌, map}
use Rattle.indexmap.specs.IndexSet.{insert_all}
use Rattle.f3_scopes.specs.Kinds.{is_module}
use Rattle.f3_scopes.specs.Outlines.{Scope, Using}

-- the names of modules in the order of their first USE
abbrev pub modules_of : List Using → List ℕ
modules_of uses = insert_all nat_eq [] (map (λ u. u.from.symbol) uses)

-- the number of the module of this name, among the scopes from a number on
abbrev pub module_from : Option ℕ → ℕ → List Scope → ℕ → Option ℕ
module_from found number [] symbol = found
module_from found number (s ∷ ss) symbol = module_from (if is_module s.kind && (s.name.symbol == symbol) then Some number else found) (number + 1) ss symbol
