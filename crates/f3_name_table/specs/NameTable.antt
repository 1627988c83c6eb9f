-- The text that shows what each program unit sees (own rule).
use Rattle.std.specs.Prelude.{◌≡◌, ℕ, List, [], ◌++◌, Bool, true, false, Option, None, Some, if◌then◌else◌, codes, slice_get}
use Rattle.std.specs.List.{flat_map}
use Rattle.f3_tree.specs.Tree.{Tree}
use Rattle.f3_scopes.specs.declared.outline.ScopeKind.{ScopeKind}
use Rattle.f3_scopes.specs.declared.outline.ScopeKind.TheVariants as scope
use Rattle.f3_scopes.specs.declared.outline.EntityKind.{EntityKind}
use Rattle.f3_scopes.specs.declared.outline.EntityKind.TheVariants as entity
use Rattle.f3_scopes.specs.Outlines.{Scope}
use Rattle.f3_scopes.specs.Scopes.{scopes_of}
use Rattle.f3_lookups.specs.declared.lookup.Visible.{Visible}
use Rattle.f3_access.specs.Listing.{is_private}
use Rattle.f3_access.specs.Tables.{own_of}
use Rattle.f3_name_rules.specs.NameBreaks.{text_of}
use Rattle.f3_names.specs.declared.entity.Entity.{Entity}
use Rattle.f3_names.specs.declared.table.Names.{Names}
use Rattle.f3_names.specs.Entities.{described}
use Rattle.f3_names.specs.Tables.{AreNames, scope_numbers}

abbrev pub unit_word : ScopeKind → List ℕ
unit_word scope.Module = codes "module"
unit_word scope.Program = codes "program"
unit_word scope.Subroutine = codes "subroutine"
unit_word scope.Function = codes "function"
unit_word scope.Associate = codes "associate"

abbrev pub kind_word : EntityKind → List ℕ
kind_word entity.Constant = codes "constant"
kind_word entity.Variable = codes "variable"
kind_word entity.DerivedType = codes "type"
kind_word entity.Subroutine = codes "subroutine"
kind_word entity.Function = codes "function"

-- what an entity is, the unit that holds it and its name there, and whether it is protected; these are the names' texts
abbrev pub entity_text : List (List ℕ) → Option Entity → List ℕ
entity_text texts None = []
entity_text texts (Some e) =
    kind_word e.kind
    ++ (codes " "
    ++ (text_of texts e.home
    ++ (codes "." ++ (text_of texts e.original ++ (if e.is_protected then codes " protected" else [])))))

-- in a module, whether a name is public or private there
abbrev pub access_in : ScopeKind → Bool → List ℕ
access_in scope.Module true = codes " private"
access_in scope.Module false = codes " public"
access_in _ private = []

abbrev pub access_text : Scope → ℕ → List ℕ
access_text s symbol = access_in s.kind (is_private s symbol)

-- the line of a visible name
abbrev pub line : List (List ℕ) → List Entity → Scope → Visible → List ℕ
line texts entities s v =
    codes "  "
    ++ (text_of texts v.symbol ++ (codes " " ++ (entity_text texts (slice_get entities v.entity) ++ (access_text s v.symbol ++ codes "\n"))))

-- a unit, and a line for each name that is visible there, in the order of names
abbrev pub unit_text : List (List ℕ) → List Entity → List Visible → Option Scope → List ℕ
unit_text texts entities visible None = []
unit_text texts entities visible (Some s) =
    unit_word s.kind
    ++ (codes " " ++ (text_of texts s.name.symbol ++ (codes "\n" ++ flat_map (line texts entities s) visible)))

-- the units in order of place, where each scope sees this
abbrev pub table_text : Tree → (ℕ → List Visible) → List ℕ
table_text t visible =
    flat_map (λ number. unit_text t.names (described (scopes_of t)) (visible number) (slice_get (scopes_of t) number)) (scope_numbers 0 t.units)

-- The text of a program, of which the tables have exactly what is visible in each unit, in the order of names.
abbrev pub IsNameTable : Tree → List ℕ → Type 0
IsNameTable t text = (names : Names) × AreNames t names × (text ≡ table_text t (own_of names.tables))
