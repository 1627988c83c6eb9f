-- Which entity a scope has under which name (ISO/IEC 1539-1:2004, 11.2 and 16.4.1.3).
use Rattle.std.specs.Prelude.{◌≡◌, ◌≢◌, ℕ, ◌+◌, ◌<◌, List, [], true, false, Some, Contains, ◌⊎◌, length, take, slice_get}
use Rattle.std.specs.List.{flat_map, slice_index_or}
use Rattle.f3_tree.specs.declared.declaration.Accessibility.{Accessibility}
use Rattle.f3_tree.specs.declared.declaration.Accessibility.TheVariants.{Private}
use Rattle.f3_tree.specs.declared.expression.Name.{Name}
use Rattle.f3_scopes.specs.declared.outline.ScopeKind.TheVariants.{Module, Program}
use Rattle.f3_scopes.specs.declared.outline.UseItem.{UseItem}
use Rattle.f3_scopes.specs.Outlines.{Scope, Own, Using, Listed}
use Rattle.f3_access.specs.Hosts.{host_of}

-- An entity is a declaration. Entities are numbered from 0, as they stand in this list: scope by scope.
abbrev pub entities_of : List Scope → List Own
entities_of scopes = flat_map (λ s. s.declared) scopes

-- how many entities the scopes before this one declare
abbrev pub first_entity : List Scope → ℕ → ℕ
first_entity scopes number = length (entities_of (take number scopes))

-- The scope of this number declares the entity, by this name.
abbrev pub IsDeclared : List Scope → ℕ → ℕ → ℕ → Type 0
IsDeclared scopes number symbol entity =
    (scope : Scope) × (place : ℕ) × (declared : Own) × (slice_get scopes number ≡ Some scope)
    × (slice_get scope.declared place ≡ Some declared) × (declared.name.symbol ≡ symbol) × (first_entity scopes number + place ≡ entity)

-- The scope of this number is a module of this name.
abbrev pub IsModule : List Scope → ℕ → ℕ → Type 0
IsModule scopes number symbol =
    (source : Scope) × (slice_get scopes number ≡ Some source) × (source.kind ≡ Module) × (source.name.symbol ≡ symbol)

-- A PUBLIC or PRIVATE, statement or attribute, names the name (5.1.2.1, 5.2.1).
pub data IsNamed (scope : Scope) (access : Accessibility) (symbol : ℕ) : Type 0 where
  in_statement : (statement : Listed) (name : Name) → Contains scope.accesses statement
      → statement.accessibility ≡ access → Contains statement.names name → name.symbol ≡ symbol
      → IsNamed scope access symbol
  as_attribute : (declared : Own) → Contains scope.declared declared → Contains declared.accesses access
      → declared.name.symbol ≡ symbol → IsNamed scope access symbol

-- A PRIVATE names it, or nothing does and there is a PRIVATE without a list (5.2.1).
abbrev pub IsPrivate : Scope → ℕ → Type 0
IsPrivate scope symbol =
    IsNamed scope Private symbol
    ⊎ (((access : Accessibility) → IsNamed scope access symbol → ⊥)
    × (statement : Listed) × Contains scope.accesses statement × (statement.accessibility ≡ Private) × (statement.names ≡ []))

-- In this scope the name `original` that the module `from` exports is called `symbol`: it is an only-name; or it is
-- renamed so; or some USE of the module has no ONLY, and no USE of it renames the name (11.2.1).
pub data IsCalled (scope : Scope) (from original symbol : ℕ) : Type 0 where
  alone : (u : Using) (i : UseItem) → Contains scope.uses u → u.from.symbol ≡ from → Contains u.items i
      → i.is_rename ≡ false → i.original.symbol ≡ original → symbol ≡ original
      → IsCalled scope from original symbol
  renamed : (u : Using) (i : UseItem) → Contains scope.uses u → u.from.symbol ≡ from → Contains u.items i
      → i.is_rename ≡ true → i.original.symbol ≡ original → symbol ≡ i.local.symbol
      → IsCalled scope from original symbol
  kept : (u : Using) → Contains scope.uses u → u.from.symbol ≡ from → u.has_only ≡ false → symbol ≡ original
      → ((v : Using) (i : UseItem) → Contains scope.uses v → v.from.symbol ≡ from → Contains v.items i → i.is_rename ≡ true → i.original.symbol ≢ original)
      → IsCalled scope from original symbol

-- A USE of the scope brings what the module of this number has under the name `original`, which is public there, and
-- calls it `symbol`.
abbrev pub Brings : List Scope → ℕ → ℕ → ℕ → ℕ → Type 0
Brings scopes number source original symbol =
    (user : Scope) × (from : Scope) × (slice_get scopes number ≡ Some user) × (slice_get scopes source ≡ Some from) × (from.kind ≡ Module)
    × (IsPrivate from original → ⊥) × IsCalled user from.name.symbol original symbol

-- What a scope has of its own, the least set: what it declares, and what a USE brings of what a module has of its own.
pub data IsOwn (scopes : List Scope) : ℕ → ℕ → ℕ → Type 0 where
  declared : (number symbol entity : ℕ) → IsDeclared scopes number symbol entity → IsOwn scopes number symbol entity
  used : (number symbol entity source original : ℕ) → Brings scopes number source original symbol
      → IsOwn scopes source original entity → IsOwn scopes number symbol entity

-- The module of this number exports the entity under this name: its own that are public.
abbrev pub IsExported : List Scope → ℕ → ℕ → ℕ → Type 0
IsExported scopes number symbol entity =
    (source : Scope) × (slice_get scopes number ≡ Some source) × (source.kind ≡ Module) × (IsPrivate source symbol → ⊥) × IsOwn scopes number symbol entity

-- A USE of the scope brings the entity under this name.
abbrev pub IsUsed : List Scope → ℕ → ℕ → ℕ → Type 0
IsUsed scopes number symbol entity = (source : ℕ) × (original : ℕ) × Brings scopes number source original symbol × IsOwn scopes source original entity

-- What is visible in a scope, the least set: the scope's own; and what is visible around it, in its host, under a name that
-- none of its own has (16.2, 16.3; 16.4.1.3).
pub data IsVisible (scopes : List Scope) : ℕ → ℕ → ℕ → Type 0 where
  own : (number symbol entity : ℕ) → IsOwn scopes number symbol entity → IsVisible scopes number symbol entity
  around : (number symbol entity host : ℕ) → host_of scopes number ≡ Some host
      → ((hiding : ℕ) → IsOwn scopes number symbol hiding → ⊥) → IsVisible scopes host symbol entity
      → IsVisible scopes number symbol entity

-- A module or a main program.
abbrev pub IsUnit : Scope → Type 0
IsUnit scope = (scope.kind ≡ Module) ⊎ (scope.kind ≡ Program)

-- Each unit stands once, behind the modules that it uses.
pub record IsUnitOrder (scopes : List Scope) (order : List ℕ) : Type 0 where
  pub within : (k : ℕ) → k < length order → (unit : Scope) × (slice_get scopes (slice_index_or order k 0) ≡ Some unit) × IsUnit unit
  pub once : (j k : ℕ) → j < k → k < length order → slice_index_or order j 0 ≢ slice_index_or order k 0
  pub all : (number : ℕ) (unit : Scope) → slice_get scopes number ≡ Some unit → IsUnit unit → Contains order number
  pub after : (k : ℕ) (unit : Scope) (u : Using) (m : ℕ) → k < length order
      → slice_get scopes (slice_index_or order k 0) ≡ Some unit → Contains unit.uses u → IsModule scopes m u.from.symbol
      → Contains (take k order) m

-- No two modules have one name.
abbrev pub ModulesDiffer : List Scope → Type 0
ModulesDiffer scopes = (i j symbol : ℕ) → IsModule scopes i symbol → IsModule scopes j symbol → i ≡ j

-- what is visible is a declaration of some scope
abbrev pub VisibleIsDeclared : Type 0
VisibleIsDeclared = (scopes : List Scope) (number symbol entity : ℕ) → IsVisible scopes number symbol entity
    → (declared : Own) × (slice_get (entities_of scopes) entity ≡ Some declared)
