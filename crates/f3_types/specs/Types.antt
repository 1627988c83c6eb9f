-- The tables of what the entities of a program are.
use Rattle.std.specs.Prelude.{ℕ, List, Option, None, slice_get}
use Rattle.f3_lookups.specs.declared.lookup.Lookup.{Lookup}
use Rattle.f3_tree.specs.Tree.{Tree}
use Rattle.f3_kinds.specs.declared.types.Scalar.{Scalar}
use Rattle.f3_kinds.specs.Things.{map_or}
use Rattle.f3_types.specs.declared.table.Types.{Types}
use Rattle.f3_rules.specs.Least.{Least}
use Rattle.f3_types.specs.Breaks.{BreaksOfDefinitions}
use Rattle.f3_types.specs.Parts.{AreTypesOf, AreAlong}

-- what each entity is, the values of the named constants and the cells of the types are the program's
abbrev pub AreTypes : Tree → Types → Type 0
AreTypes t types = AreTypesOf t types.things.items types.values.items types.cells.items

-- so they are with what names mean, and along this order of the units
abbrev pub AreTypesAlong : Tree → (look : ℕ → ℕ → Lookup) → (order : List ℕ) → Types → Type 0
AreTypesAlong t look order types = AreAlong t look order types.things.items types.values.items types.cells.items

-- what is kept of definitions is the first break of their rules in the program, if there is one
abbrev pub HasDefinitions : Tree → Types → Type 0
HasDefinitions t types = Least types.definition (BreaksOfDefinitions t)

-- the value of a named constant, by its entity
abbrev pub value_in : Types → ℕ → Option Scalar
value_in types e = map_or None (λ (v : Option Scalar). v) (slice_get types.values.items e)

-- the cells of a derived type, by its entity
abbrev pub cells_in : Types → ℕ → Option ℕ
cells_in types e = map_or None (λ (n : Option ℕ). n) (slice_get types.cells.items e)
