-- The order of the names that a scope has (own rule).
use Rattle.std.specs.Prelude.{ℕ, ◌+◌, List, [], ◌∷◌, ◌++◌, Bool, true, false, Option, None, Some, ◌||◌, ◌&&◌, ◌==◌, not, if◌then◌else◌, map, filter, length}
use Rattle.std.specs.List.{flat_map, list_any}
use Rattle.indexmap.specs.IndexSet.{insert_all}
use Rattle.f3_scopes.specs.declared.outline.ScopeKind.{ScopeKind}
use Rattle.f3_scopes.specs.declared.outline.ScopeKind.TheVariants.{Module, Program, Subroutine, Function, Associate}
use Rattle.f3_scopes.specs.declared.outline.UseItem.{UseItem}
use Rattle.f3_scopes.specs.Kinds.{is_module}
use Rattle.f3_scopes.specs.Outlines.{Scope, Own, Using}
use Rattle.f3_lookups.specs.declared.lookup.Visible.{Visible}
use Rattle.f3_access.specs.Access.{first_entity}
pub use Rattle.f3_selecting.specs.Sources.{modules_of, module_from}
pub use Rattle.f3_selecting.specs.Private.{is_private}

abbrev pub same_pair : Visible → Visible → Bool
same_pair a b = (a.symbol == b.symbol) && (a.entity == b.entity)

abbrev pub pair : ℕ → ℕ → Visible
pair symbol entity = record { symbol = symbol; entity = entity }

-- what a scope declares, where its first entity has this number
abbrev pub numbered : ℕ → List Own → List Visible
numbered number [] = []
numbered number (d ∷ ds) = pair d.name.symbol number ∷ numbered (number + 1) ds

abbrev pub module_named : List Scope → ℕ → Option ℕ
module_named scopes symbol = module_from None 0 scopes symbol

-- the items of all USE statements of a module, in order
abbrev pub items_of : List Using → ℕ → List UseItem
items_of [] m = []
items_of (u ∷ us) m = (if u.from.symbol == m then u.items else []) ++ items_of us m

-- a USE of this module without ONLY
abbrev pub is_open : ℕ → Using → Bool
is_open m u = (u.from.symbol == m) && not u.has_only

abbrev pub names_alone : ℕ → UseItem → Bool
names_alone x i = not i.is_rename && (i.original.symbol == x)

abbrev pub renames : ℕ → UseItem → Bool
renames x i = i.is_rename && (i.original.symbol == x)

-- the local names that renames give a name of a module, in order of place
abbrev pub locals_of : List Using → ℕ → ℕ → List ℕ
locals_of uses m x = map (λ i. i.local.symbol) (filter (renames x) (items_of uses m))

-- whether the scope keeps a name of a module
abbrev pub is_kept : List Using → ℕ → ℕ → Bool
is_kept uses m x = list_any (names_alone x) (items_of uses m) || (list_any (is_open m) uses && not (list_any (renames x) (items_of uses m)))

-- what one export of a module gives: its name first where the scope keeps it, then the renames of that name
abbrev pub called : List Using → ℕ → Visible → List Visible
called uses m e = (if is_kept uses m e.symbol then e ∷ [] else []) ++ map (λ n. pair n e.entity) (locals_of uses m e.symbol)

-- what a module exports, where there is one
abbrev pub exports_of : (ℕ → List Visible) → Option ℕ → List Visible
exports_of exports None = []
exports_of exports (Some source) = exports source

-- what these USE statements bring, where a module of this name has this number and each module exports this
abbrev pub brought : List Using → (ℕ → List Visible) → (ℕ → Option ℕ) → List Visible
brought uses exports find = flat_map (λ m. flat_map (called uses m) (exports_of exports (find m))) (modules_of uses)

-- what USE brings into a scope, where each module exports this
abbrev pub used_pairs : List Scope → (ℕ → List Visible) → Scope → List Visible
used_pairs scopes exports scope = flat_map (λ m. flat_map (called scope.uses m) (exports_of exports (module_named scopes m))) (modules_of scope.uses)

-- What the scope of this number has of its own: what USE brings, then what it declares; each pair once, at its first place.
abbrev pub own_listed : List Scope → (ℕ → List Visible) → ℕ → Scope → List Visible
own_listed scopes exports number scope = insert_all same_pair [] (used_pairs scopes exports scope ++ numbered (first_entity scopes number) scope.declared)

-- what a scope with these pairs exports
abbrev pub exported : Scope → List Visible → List Visible
exported scope vs = if is_module scope.kind then filter (λ v. not (is_private scope v.symbol)) vs else []

abbrev pub hides : List Visible → ℕ → Bool
hides own n = list_any (λ v. v.symbol == n) own

-- What is visible in a scope with a host: its own, then what is visible in its host under names that none of its own has, in
-- their order.
abbrev pub with_host : List Visible → List Visible → List Visible
with_host own host = own ++ filter (λ v. not (hides own v.symbol)) host

-- what each scope declares, where the first entity of the first has this number
abbrev pub lists_from : ℕ → List Scope → List (List Visible)
lists_from number [] = []
lists_from number (s ∷ ss) = numbered number s.declared ∷ lists_from (number + length s.declared) ss

abbrev pub is_unit : ScopeKind → Bool
is_unit Module = true
is_unit Program = true
is_unit Subroutine = false
is_unit Function = false
is_unit Associate = false
