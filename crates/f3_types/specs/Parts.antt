-- What the entities of a program are.
use Rattle.std.specs.Prelude.{◌≡◌, ℕ, nat_eq, List, Option, None, map, slice_get}
use Rattle.std.specs.Map.{lookup}
use Rattle.f3_lookups.specs.declared.lookup.Lookup.{Lookup}
use Rattle.f3_graph.specs.Order.{IsOrderOf}
use Rattle.f3_graph.specs.Units.{nodes_of}
use Rattle.f3_scopes.specs.Scopes.{scopes_of}
use Rattle.f3_tree.specs.Tree.{Tree}
use Rattle.f3_kinds.specs.declared.things.Thing.{Thing}
use Rattle.f3_kinds.specs.declared.types.Scalar.{Scalar}
use Rattle.f3_kinds.specs.Things.{map_or}
use Rattle.f3_typed_parts.specs.Known.{nature_of}
use Rattle.f3_type_rules.specs.Declarations.{unit_next}
use Rattle.f3_type_rules.specs.Members.{Numbered, units_from}
use Rattle.f3_type_rules.specs.Program.{nothing_known, units_in}
use Rattle.f3_type_rules.specs.Scene.{names_of, Scene, scene_of}
use Rattle.f3_type_rules.specs.Walks.{after, Known}
use Rattle.f3_entities.specs.Cells.{HasCells}
use Rattle.f3_types.specs.Breaks.{Means}

-- the units of a program by the numbers of their scopes
abbrev pub units_of : Tree → List Numbered
units_of t = units_from (scopes_of t) 0 t.units

-- what is known wherever something stands in a program, whose names mean this
abbrev pub scene_in : Tree → (look : ℕ → ℕ → Lookup) → Scene
scene_in t look = scene_of (names_of t look) (scopes_of t) (units_of t)

-- what the declarations of a program make known, along this order of its units
abbrev pub declared_along : Tree → (look : ℕ → ℕ → Lookup) → (order : List ℕ) → Known
declared_along t look order = after (unit_next (scene_in t look)) nothing_known (units_in (units_of t) order)

-- These are the types of a program: what each of its entities is, the values of its named constants, and the cells of its types, along an
-- order of its units in which used modules come first.
pub record AreTypesOf (t : Tree) (things : List Thing) (values_here : List (Option Scalar)) (cells_here : List (Option ℕ)) : Type 0 where
  pub look : ℕ → ℕ → Lookup
  pub order : List ℕ
  pub means : Means t look
  pub ordered : IsOrderOf (nodes_of t) order
  pub natures : map nature_of things ≡ (scene_in t look).natures
  pub values : (e : ℕ) → map_or None (λ (v : Option Scalar). v) (slice_get values_here e) ≡ lookup (nat_eq e) (declared_along t look order).values
  pub cells : HasCells cells_here (declared_along t look order)

-- With what names mean, and along an order of the units: what each entity is, the values of the named constants, and the cells of the types.
pub record AreAlong (t : Tree) (look : ℕ → ℕ → Lookup) (order : List ℕ) (things : List Thing)
    (values_here : List (Option Scalar)) (cells_here : List (Option ℕ)) : Type 0 where
  pub natures : map nature_of things ≡ (scene_in t look).natures
  pub values : (e : ℕ) → map_or None (λ (v : Option Scalar). v) (slice_get values_here e) ≡ lookup (nat_eq e) (declared_along t look order).values
  pub cells : HasCells cells_here (declared_along t look order)

-- there is a program of which they are
abbrev pub AreOfAProgram : List Thing → List (Option Scalar) → List (Option ℕ) → Type 0
AreOfAProgram things values cells = (t : Tree) × AreTypesOf t things values cells
