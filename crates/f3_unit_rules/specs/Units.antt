-- Units by their numbers.
use Rattle.std.specs.Prelude.{◌≡◌, ℕ, ◌+◌, ◌≤◌, List, Some, map, length, slice_get}
use Rattle.std.specs.List.{flat_map}
use Rattle.f3_scopes.specs.Outlines.{Scope}
use Rattle.f3_scopes.specs.Scopes.{declared_in}
use Rattle.f3_tree.specs.Tree.{UnitTree}
use Rattle.f3_type_rules.specs.Associates.{constructs_of_block}
use Rattle.f3_type_rules.specs.Members.{Numbered, units_from}
use Rattle.f3_part_rules.specs.Members.{Fit}

-- These have the first entity of a unit, which has this scope, and of its procedures, and there is room for all that they declare.
abbrev pub UnitFits : (firsts : List ℕ) → (room : ℕ) → (scope : ℕ) → UnitTree → Type 0
UnitFits firsts room scope u =
    ((e : ℕ) × (slice_get firsts scope ≡ Some e) × (e + length (flat_map declared_in (u.part).specifications) ≤ room))
    × Fit firsts room (scope + 1 + length (constructs_of_block u.body)) u.procedures

-- the same of each unit, by the number of its scope
abbrev pub UnitsFit : (firsts : List ℕ) → (room : ℕ) → (numbers : List ℕ) → List UnitTree → Type 0
UnitsFit firsts room numbers us = (i n : ℕ) (u : UnitTree) → slice_get numbers i ≡ Some n → slice_get us i ≡ Some u → UnitFits firsts room n u

-- the scopes of the units of a program
abbrev pub AreNumbers : List Scope → (numbers : List ℕ) → List UnitTree → Type 0
AreNumbers scopes numbers us = map (λ (u : Numbered). u.scope) (units_from scopes 0 us) ≡ numbers
