-- The breaks of a program along an order of its units, in two parts.
use Rattle.std.specs.Prelude.{ℕ, List}
use Rattle.std.specs.List.{flat_map}
use Rattle.f3_lookups.specs.declared.lookup.Lookup.{Lookup}
use Rattle.f3_rules.specs.declared.breaks.Break.{Break}
use Rattle.f3_tree.specs.Tree.{Tree}
use Rattle.f3_type_rules.specs.Declarations.{unit_rows, unit_next}
use Rattle.f3_type_rules.specs.Program.{nothing_known, units_in, unit_breaks}
use Rattle.f3_type_rules.specs.Walks.{along}
use Rattle.f3_types.specs.Parts.{units_of, scene_in, declared_along}

-- those of specification parts and headers
abbrev pub part_rows : Tree → (look : ℕ → ℕ → Lookup) → (order : List ℕ) → List Break
part_rows t look order = along (unit_rows (scene_in t look)) (unit_next (scene_in t look)) nothing_known (units_in (units_of t) order)

-- those of bodies, with all that the declarations make known
abbrev pub body_rows : Tree → (look : ℕ → ℕ → Lookup) → (order : List ℕ) → List Break
body_rows t look order = flat_map (unit_breaks (scene_in t look) (declared_along t look order).values) (units_of t)
