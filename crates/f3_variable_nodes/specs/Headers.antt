-- The names of a header.
use Rattle.std.specs.Prelude.{ℕ, List, [], ◌∷◌, ◌++◌, map}
use Rattle.f3_tree.specs.declared.expression.Name.{Name}
use Rattle.f3_kinds.specs.Things.{map_or}
use Rattle.f3_variable_nodes.specs.declared.places.HeaderNames.{HeaderNames}

abbrev pub symbols_of : HeaderNames → List ℕ
symbols_of h = map (λ (n : Name). n.symbol) (h.dummies.names.now ++ map_or [] (λ (n : Name). n ∷ []) h.result)
