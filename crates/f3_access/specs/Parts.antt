-- What tables hold, and when they are those of a program.
use Rattle.std.specs.Prelude.{◌≡◌, ℕ, ◌<◌, ◌+◌, List, [], ◌∷◌, ◌++◌, ◌⊎◌, Bool, false, filter, Option, None, Some, true, Contains, ◌↔◌}
use Rattle.std.specs.Prelude.{◌==◌, nat_eq, if◌then◌else◌, length, map, slice_get, slice_set}
use Rattle.std.specs.List.{flat_map}
use Rattle.indexmap.specs.IndexMap.{get}
use Rattle.indexmap.specs.IndexSet.{insert_all}
use Rattle.f3_scopes.specs.Outlines.{Scope}
use Rattle.f3_selecting.specs.Private.{makes_private}
use Rattle.f3_selecting.specs.Places.{places_in}
use Rattle.f3_lookups.specs.declared.lookup.Visible.{Visible}
use Rattle.f3_lookups.specs.declared.lookup.Lookup.{Lookup}
use Rattle.f3_lookups.specs.declared.lookup.Lookup.TheVariants.{One, Nothing, Several}
use Rattle.f3_access.specs.declared.table.ScopeTable.{ScopeTable}
use Rattle.f3_selecting.specs.declared.choosing.Accesses.{Accesses}
use Rattle.f3_access.specs.Hosts.{host_of, HostsBefore, outward}
use Rattle.f3_access.specs.Access.{first_entity, IsModule, IsPrivate, IsOwn, IsExported, IsUsed, IsVisible}
use Rattle.f3_access.specs.Lookups.{Resolves}
use Rattle.f3_access.specs.Listing.{same_pair, pair, numbered, used_pairs, own_listed, exported, with_host, is_unit}

abbrev pub note : Lookup → ℕ → Lookup
note Nothing e = One e
note (One d) e = if d == e then One d else Several
note Several e = Several

-- what a list of pairs adds to what is known of a name
abbrev pub meaning : Lookup → List Visible → ℕ → Lookup
meaning l [] n = l
meaning l (v ∷ vs) n = meaning (if v.symbol == n then note l v.entity else l) vs n

abbrev pub found : Option Lookup → Lookup
found None = Nothing
found (Some l) = l

-- what one table has
abbrev pub own_in : Option ScopeTable → List Visible
own_in None = []
own_in (Some table) = table.own.keys

abbrev pub used_in : Option ScopeTable → List ℕ
used_in None = []
used_in (Some table) = table.used.keys

abbrev pub exports_in : Option ScopeTable → List Visible
exports_in None = []
exports_in (Some table) = table.exports.items

abbrev pub lookup_in : Option ScopeTable → ℕ → Lookup
lookup_in None n = Nothing
lookup_in (Some table) n = found (get nat_eq table.lookups n)

abbrev pub host_in : Option ScopeTable → Option ℕ
host_in None = None
host_in (Some table) = table.host

abbrev pub is_nothing : Lookup → Bool
is_nothing Nothing = true
is_nothing (One e) = false
is_nothing Several = false

abbrev pub own_at : List ScopeTable → ℕ → List Visible
own_at tables number = own_in (slice_get tables number)

abbrev pub exports_at : List ScopeTable → ℕ → List Visible
exports_at tables number = exports_in (slice_get tables number)

-- the places of a name among these pairs, of which the first stands at this place
abbrev pub places_from : ℕ → List Visible → ℕ → List ℕ
places_from place [] n = []
places_from place (v ∷ vs) n = (if v.symbol == n then place ∷ [] else []) ++ places_from (place + 1) vs n

-- a table knows where it exports each name
abbrev pub HasPlaces : ScopeTable → Type 0
HasPlaces table = (n : ℕ) → places_in (get nat_eq table.places n) ≡ places_from 0 table.exports.items n

-- The table of a scope into which USE brings the first pairs and which declares the others.
pub record IsTable (pairs declared : List Visible) (scope : Scope) (table : ScopeTable) : Type 0 where
  pub own : table.own.keys ≡ insert_all same_pair [] (pairs ++ declared)
  pub used : table.used.keys ≡ insert_all nat_eq [] (map (λ v. v.symbol) (insert_all same_pair [] pairs))
  pub lookups : (n : ℕ) → found (get nat_eq table.lookups n) ≡ meaning Nothing table.own.keys n
  pub exports : table.exports.items ≡ exported scope table.own.keys
  pub places : HasPlaces table
  pub host : table.host ≡ scope.host

-- the table of the scope of this number is what the modules' exports give
abbrev pub IsTableOf : List Scope → List ScopeTable → ℕ → ScopeTable → Type 0
IsTableOf scopes tables number table =
    (scope : Scope) → slice_get scopes number ≡ Some scope
    → IsTable (used_pairs scopes (exports_at tables) scope) (numbered (first_entity scopes number) scope.declared)
    scope table

-- in these tables just that of the scope of this number is written anew, as the modules' exports give it
abbrev pub IsFilled : List Scope → ℕ → List ScopeTable → List ScopeTable → Type 0
IsFilled scopes number old new = (table : ScopeTable) × (new ≡ slice_set old number table) × IsTableOf scopes old number table

abbrev pub Stands : List Scope → List ScopeTable → ℕ → Type 0
Stands scopes tables number = (table : ScopeTable) × (slice_get tables number ≡ Some table) × IsTableOf scopes tables number table

abbrev pub UnitsStand : List Scope → List ScopeTable → Type 0
UnitsStand scopes tables =
    (length tables ≡ length scopes)
    × ((number : ℕ) (scope : Scope) → slice_get scopes number ≡ Some scope → is_unit scope.kind ≡ true
    → Stands scopes tables number)

-- the scopes that have their tables: the units, and all before a number
abbrev pub Done : List Scope → List ScopeTable → ℕ → Type 0
Done scopes tables before =
    (number : ℕ) (scope : Scope) → slice_get scopes number ≡ Some scope → (is_unit scope.kind ≡ true)
    ⊎ (number < before) → Stands scopes tables number

abbrev pub AllStand : List Scope → List ScopeTable → Type 0
AllStand scopes tables = (length tables ≡ length scopes) × ((number : ℕ) → number < length scopes → Stands scopes tables number)

-- What tables say of a scope -----------------------------------------------------------------------

abbrev pub host_at : List ScopeTable → ℕ → Option ℕ
host_at tables number = host_in (slice_get tables number)

-- the number of the first of these scopes that has something of its own under a name
abbrev pub holder_among : List ScopeTable → List ℕ → ℕ → Option ℕ
holder_among tables [] n = None
holder_among tables (k ∷ ks) n = if is_nothing (lookup_in (slice_get tables k) n) then holder_among tables ks n else Some k

-- the nearest scope, of the scope of this number and those around it, that has something of its own under a name
abbrev pub holder_at : List ScopeTable → ℕ → ℕ → Option ℕ
holder_at tables number n = holder_among tables (outward (host_at tables) number) n

abbrev pub own_found : List ScopeTable → Option ℕ → ℕ → Lookup
own_found tables None n = Nothing
own_found tables (Some number) n = lookup_in (slice_get tables number) n

-- what is found under a name: what the nearest scope has that has anything
abbrev pub lookup_at : List ScopeTable → ℕ → ℕ → Lookup
lookup_at tables number n = own_found tables (holder_at tables number n) n

abbrev pub is_number : Option ℕ → ℕ → Bool
is_number None number = false
is_number (Some k) number = k == number

-- those of these pairs of the second scope that are visible in the first: no scope that is nearer has their names
abbrev pub seen_in : List ScopeTable → ℕ → ℕ → List Visible → List Visible
seen_in tables number other pairs = filter (λ v. is_number (holder_at tables number v.symbol) other) pairs

abbrev pub seen_from : List ScopeTable → ℕ → List ℕ → List Visible
seen_from tables number others = flat_map (λ other. seen_in tables number other (own_at tables other)) others

-- what is visible in a scope: of it and of each around it, what no nearer one hides
abbrev pub visible_at : List ScopeTable → ℕ → List Visible
visible_at tables number = seen_from tables number (outward (host_at tables) number)

-- a scope's own pairs, and behind them what is visible in its host under names that none of its own has
abbrev pub visible_listed : List ScopeTable → ℕ → Option ℕ → List Visible
visible_listed tables number None = own_at tables number
visible_listed tables number (Some host) = with_host (own_at tables number) (visible_at tables host)

abbrev pub private_in : Option Accesses → ℕ → Bool
private_in None n = false
private_in (Some a) n = makes_private a n

-- Each list has a pair exactly where it is the scope's own, exported or visible there, in the order of names; a name is
-- brought by USE exactly where some entity is; and under each name one entity is found, or none, or several, as one,
-- none or several are visible. A name is private where the scope makes it so, the module of a name is found, and the host of
-- a scope, which stands before it.
pub record AreTablesOf (scopes : List Scope) (tables : List ScopeTable) (accesses : List Accesses) (modules_here : ℕ → Option ℕ) : Type 0 where
  pub own : (number symbol entity : ℕ) → Contains (own_at tables number) (pair symbol entity) ↔ IsOwn scopes number symbol entity
  pub own_order : (number : ℕ) (scope : Scope) → slice_get scopes number ≡ Some scope
      → own_at tables number ≡ own_listed scopes (exports_at tables) number scope
  pub exports : (number symbol entity : ℕ) → Contains (exports_at tables number) (pair symbol entity) ↔ IsExported scopes number symbol entity
  pub exports_order : (number : ℕ) (scope : Scope) → slice_get scopes number ≡ Some scope → exports_at tables number ≡ exported scope (own_at tables number)
  pub used : (number symbol : ℕ) → Contains (used_in (slice_get tables number)) symbol ↔ ((entity : ℕ) × IsUsed scopes number symbol entity)
  pub visible : (number symbol entity : ℕ) → Contains (visible_at tables number) (pair symbol entity) ↔ IsVisible scopes number symbol entity
  pub visible_order : (number : ℕ) → visible_at tables number ≡ visible_listed tables number (host_of scopes number)
  pub private : (number symbol : ℕ) (scope : Scope) → slice_get scopes number ≡ Some scope
      → (private_in (slice_get accesses number) symbol ≡ true) ↔ IsPrivate scope symbol
  pub modules : (number symbol : ℕ) → (modules_here symbol ≡ Some number) ↔ IsModule scopes number symbol
  pub resolves : (number symbol : ℕ) → Resolves (lookup_at tables number symbol) (IsVisible scopes number symbol)
  pub hosts : (number : ℕ) → host_at tables number ≡ host_of scopes number
  pub hosts_before : HostsBefore scopes

-- there are scopes of which they are
abbrev pub AreOfScopes : List ScopeTable → List Accesses → (ℕ → Option ℕ) → Type 0
AreOfScopes tables accesses modules = (scopes : List Scope) × AreTablesOf scopes tables accesses modules
