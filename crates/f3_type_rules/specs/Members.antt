-- The units and procedures of a program by the numbers of their scopes and entities. Entities are numbered as the scopes declare
-- them, scope by scope.
use Rattle.std.specs.Prelude.{ℕ, ◌+◌, List, [], ◌∷◌, length}
use Rattle.std.specs.List.{flat_map}
use Rattle.f3_access.specs.Access.{first_entity}
use Rattle.f3_scopes.specs.Outlines.{Scope}
use Rattle.f3_scopes.specs.Scopes.{unit_scopes, declared_in}
use Rattle.f3_tree.specs.Tree.{ProcedureTree, UnitTree}
use Rattle.f3_type_rules.specs.Associates.{constructs_of_block}

-- a procedure: its own entity, its scope, and the entity that is declared there first
pub record Member : Type 0 where
  pub entity : ℕ
  pub scope : ℕ
  pub first : ℕ
  pub tree : ProcedureTree

-- a unit: its scope, the entity that is declared there first, and its procedures
pub record Numbered : Type 0 where
  pub scope : ℕ
  pub first : ℕ
  pub tree : UnitTree
  pub members : List Member

-- the constructs of its body stand behind it
abbrev pub members_from : List Scope → (entity : ℕ) → (scope : ℕ) → List ProcedureTree → List Member
members_from scopes e scope [] = []
members_from scopes e scope (p ∷ ps) =
    record { entity = e; scope = scope; first = first_entity scopes scope; tree = p }
    ∷ members_from scopes (e + 1) (scope + 1 + length (constructs_of_block p.body)) ps

-- a module's procedures are its last entities
abbrev pub numbered : List Scope → (scope : ℕ) → UnitTree → Numbered
numbered scopes scope u =
    let first : ℕ = first_entity scopes scope in
    record {
      scope = scope;
      first = first;
      tree = u;
      members =
          let own : ℕ = length (flat_map declared_in (u.part).specifications) in
          members_from scopes (first + own) (scope + 1 + length (constructs_of_block u.body)) u.procedures;
    }

abbrev pub units_from : List Scope → (scope : ℕ) → List UnitTree → List Numbered
units_from scopes scope [] = []
units_from scopes scope (u ∷ us) = numbered scopes scope u ∷ units_from scopes (scope + length (unit_scopes scope u)) us
