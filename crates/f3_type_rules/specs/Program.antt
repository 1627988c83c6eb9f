-- The breaks of phases 5 to 7 of a program: what no rule on text, units and names refuses is refused for the least of them.
use Rattle.std.specs.Prelude.{ℕ, ◌+◌, Bool, false, List, [], ◌∷◌, ◌++◌, slice_get}
use Rattle.std.specs.List.{flat_map}
use Rattle.f3_lookups.specs.declared.lookup.Lookup.{Lookup}
use Rattle.f3_rules.specs.declared.breaks.Break.{Break}
use Rattle.f3_scopes.specs.Outlines.{Scope}
use Rattle.f3_scopes.specs.Scopes.{scopes_of}
use Rattle.f3_tree.specs.Statements.{Block}
use Rattle.f3_tree.specs.Tree.{Tree}
use Rattle.f3_kinds.specs.declared.types.Scalar.{Scalar}
use Rattle.f3_kinds.specs.Things.{map_or}
use Rattle.f3_type_rules.specs.Members.{Member, Numbered, units_from}
use Rattle.f3_type_rules.specs.Scene.{names_of, Scene, scene_of, site_in}
use Rattle.f3_type_rules.specs.Walks.{after, along, Known}
use Rattle.f3_type_rules.specs.Declarations.{spot_of, unit_rows, unit_next}
use Rattle.f3_type_rules.specs.Bodies.{block_breaks}

-- the block of a procedure or a program: the scopes of its constructs come right behind its own
abbrev pub body_breaks : Scene → (values : List (ℕ × Scalar)) → (unit : ℕ) → (scope : ℕ) → (is_pure : Bool) → Block → List Break
body_breaks s values unit scope pure b = block_breaks (site_in s unit scope pure values) (scope + 1) b

abbrev pub member_breaks : Scene → (values : List (ℕ × Scalar)) → (unit : ℕ) → Member → List Break
member_breaks s values unit m = body_breaks s values unit m.scope (spot_of s unit m).is_pure (m.tree).body

abbrev pub unit_breaks : Scene → (values : List (ℕ × Scalar)) → Numbered → List Break
unit_breaks s values u = body_breaks s values u.scope u.scope false (u.tree).body ++ flat_map (member_breaks s values u.scope) u.members

abbrev pub nothing_known : Known
nothing_known = record { next = 0; values = []; cells = [] }

-- specification parts in this order of the units, with what is known grown behind them; then all blocks
abbrev pub breaks_along : Scene → List Numbered → (ordered : List Numbered) → List Break
breaks_along s units ordered =
    along (unit_rows s) (unit_next s) nothing_known ordered ++ flat_map (unit_breaks s (after (unit_next s) nothing_known ordered).values) units

abbrev pub units_in : List Numbered → (order : List ℕ) → List Numbered
units_in units order = flat_map (λ i. map_or [] (λ (u : Numbered). u ∷ []) (slice_get units i)) order

abbrev pub breaks_in : Tree → (look : ℕ → ℕ → Lookup) → (order : List ℕ) → List Scope → List Numbered → List Break
breaks_in t look order scopes units = breaks_along (scene_of (names_of t look) scopes units) units (units_in units order)

-- With the entities that a name has in each scope, and an order of the units in which used modules come first. What `first_of` finds in
-- it is what is reported behind phase 4.
abbrev pub program_breaks : Tree → (look : ℕ → ℕ → Lookup) → (order : List ℕ) → List Break
program_breaks t look order = breaks_in t look order (scopes_of t) (units_from (scopes_of t) 0 t.units)
