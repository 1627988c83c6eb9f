-- The entities of a program as their users see them (ISO/IEC 1539-1:2004, 16.4.1; that an entity is the place of its
-- declaration is an own rule).
use Rattle.std.specs.Prelude.{ℕ, ◌+◌, ◌<◌, List, [], ◌∷◌, ◌++◌, Bool, ◌||◌, ◌==◌, Option, None, Some, length, map, slice_get}
use Rattle.std.specs.List.{list_any}
use Rattle.f3_tree.specs.declared.expression.Name.{Name}
use Rattle.f3_scopes.specs.Outlines.{Own, Scope}
use Rattle.f3_access.specs.Access.{IsVisible}
use Rattle.f3_names.specs.declared.entity.Entity.{Entity}
use Rattle.f3_names.specs.Holders.{unit_of}

abbrev pub name_of : Option Scope → ℕ
name_of None = 0
name_of (Some scope) = scope.name.symbol

-- the name of the unit that holds the scope of this number
abbrev pub home_of : List Scope → ℕ → ℕ
home_of scopes number = name_of (slice_get scopes (unit_of scopes number))

-- a declared name is protected by an attribute of its declaration or by a PROTECTED statement (5.1.2.12, 5.2.11)
abbrev pub is_protected : Scope → Own → Bool
is_protected scope d = d.is_protected || list_any (λ (n : Name). n.symbol == d.name.symbol) scope.protects

-- what the scope of this number declares
abbrev pub entity_of : List Scope → ℕ → Scope → Own → Entity
entity_of scopes number scope d = record {
  place = d.name.place;
  kind = d.kind;
  scope = number;
  unit = unit_of scopes number;
  home = home_of scopes number;
  original = d.name.symbol;
  is_protected = is_protected scope d;
}

-- the entities of the scopes from this number on
abbrev pub entities_from : List Scope → ℕ → List Scope → List Entity
entities_from scopes number [] = []
entities_from scopes number (s ∷ ss) = map (entity_of scopes number s) s.declared ++ entities_from scopes (number + 1) ss

-- the entities of a program; an entity's number is its place in this list
abbrev pub described : List Scope → List Entity
described scopes = entities_from scopes 0 scopes

-- what is visible is one of the entities
abbrev pub VisibleIsEntity : Type 0
VisibleIsEntity = (scopes : List Scope) (number symbol entity : ℕ) → IsVisible scopes number symbol entity → entity < length (described scopes)
