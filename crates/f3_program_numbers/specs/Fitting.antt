-- That the numbers of what units and procedures declare are numbers in memory.
use Rattle.std.specs.Prelude.{◌≡◌, ℕ, ◌+◌, ◌<◌, ◌^◌, List, Some, length, slice_get}
use Rattle.std.specs.List.{flat_map}
use Rattle.f3_scopes.specs.Scopes.{declared_in}
use Rattle.f3_tree.specs.Tree.{ProcedureTree, UnitTree}
use Rattle.f3_unit_rules.specs.Members.{Fit}
use Rattle.f3_unit_rules.specs.Units.{UnitFits}

abbrev pub MembersFit : (firsts : List ℕ) → (scope : ℕ) → List ProcedureTree → Type 0
MembersFit firsts scope ps = (room : ℕ) × (room < 2 ^ 64) × Fit firsts room scope ps

-- with its procedures, which are entities of the unit
abbrev pub Fits : (firsts : List ℕ) → (scope : ℕ) → UnitTree → Type 0
Fits firsts scope u =
    ((room : ℕ) × (room < 2 ^ 64) × UnitFits firsts room scope u)
    × ((e : ℕ) × (slice_get firsts scope ≡ Some e) × (e + length (flat_map declared_in (u.part).specifications) + length u.procedures < 2 ^ 64))

abbrev pub AllFit : (firsts : List ℕ) → (numbers : List ℕ) → List UnitTree → Type 0
AllFit firsts numbers us = (i n : ℕ) (u : UnitTree) → slice_get numbers i ≡ Some n → slice_get us i ≡ Some u → Fits firsts n u
