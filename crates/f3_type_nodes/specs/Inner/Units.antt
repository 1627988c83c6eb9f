-- Units, and the types that they define.
use Rattle.std.specs.Prelude.{◌≡◌, ℕ, ◌+◌, ◌<◌, ◌^◌, List, [], Some, length, slice_get}
use Rattle.std.specs.List.{flat_map}
use Rattle.f3_scopes.specs.Outlines.{Scope}
use Rattle.f3_scopes.specs.Scopes.{declared_in}
use Rattle.f3_tree.specs.Declarations.{TypeTree}
use Rattle.f3_tree.specs.Tree.{UnitTree}
use Rattle.f3_kinds.specs.Things.{map_or}
use Rattle.f3_type_rules.specs.Associates.{constructs_of_block}
use Rattle.f3_type_rules.specs.Members.{Numbered}
use Rattle.f3_finals.specs.Candidates.{behind_procedures}
use Rattle.f3_part_rules.specs.declared.finalizers.Finalizers.{Finalizers}
use Rattle.f3_part_rules.specs.Finalizers.{Finalize}
use Rattle.f3_part_rules.specs.Members.{AreFirsts}
use Rattle.f3_unit_rules.specs.Units.{AreNumbers}
use Rattle.f3_elaboration.specs.Declarations.{Whole}
use Rattle.f3_elaboration.specs.Numbers.{Definition, definitions, Inner}
use Rattle.f3_declaration_nodes.specs.declared.whole.Whole.{Whole as Tables}
use Rattle.f3_declaration_nodes.specs.Stands.{Stands}

abbrev pub definition_of : Numbered → (entity : ℕ) → TypeTree → Definition
definition_of u e t = record { entity = e; unit = u; tree = t }

-- the types that the unit of this number defines, where there is one
abbrev pub definitions_at : List Numbered → (number : ℕ) → List Definition
definitions_at units i = map_or [] definitions (slice_get units i)

-- the unit has this scope, and its procedures are these
pub record IsHere (t : Tables) (f : Finalizers) (scope : ℕ) (w : Whole) (inner : Inner) (u : Numbered) : Type 0 where
  pub stands : Stands t w inner
  pub scope_is : u.scope ≡ scope
  pub finalizers : Finalize w.scene f u.members

-- The numbers of the unit's scopes and entities are those of things in memory. It has this scope.
pub record Fits (firsts : List ℕ) (scope : ℕ) (u : UnitTree) : Type 0 where
  pub entity : ℕ
  pub first : slice_get firsts scope ≡ Some entity
  pub declared : entity + length (flat_map declared_in (u.part).specifications) < 2 ^ 64
  pub procedures : behind_procedures (scope + 1 + length (constructs_of_block u.body)) u.procedures < 2 ^ 64

-- the same of each unit, by the number of its scope
abbrev pub AllFit : (firsts numbers : List ℕ) → List UnitTree → Type 0
AllFit firsts numbers us = (i n : ℕ) (u : UnitTree) → slice_get numbers i ≡ Some n → slice_get us i ≡ Some u → Fits firsts n u

-- these are the first entities of the scopes, and the scopes of the units
pub record AreHere (t : Tables) (firsts numbers : List ℕ) (us : List UnitTree) (w : Whole) (inner : Inner) (scopes : List Scope) : Type 0 where
  pub stands : Stands t w inner
  pub first : AreFirsts scopes firsts
  pub number : AreNumbers scopes numbers us
