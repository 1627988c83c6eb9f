-- What the USE statements of a scope say, by module, in hashed tables.
use Rattle.std.specs.Prelude.{◌≡◌, ℕ, List, [], ◌∷◌, Bool, true, false, Option, None, Some, ◌||◌, ◌&&◌, ◌==◌, nat_eq, if◌then◌else◌, map, Vec}
use Rattle.std.specs.Global.{Global}
use Rattle.std.specs.List.{flat_map, list_any}
use Rattle.indexmap.specs.IndexMap.{get}
use Rattle.indexmap.specs.IndexSet.{IndexSet, insert_all}
use Rattle.f3_scopes.specs.declared.outline.UseItem.{UseItem}
use Rattle.f3_scopes.specs.Outlines.{Using}
use Rattle.f3_selecting.specs.declared.selecting.Selected.{Selected}
use Rattle.f3_selecting.specs.declared.selecting.Selections.{Selections}
use Rattle.f3_selecting.specs.Sources.{modules_of}

abbrev pub same_selected : Selected → Selected → Bool
same_selected a b = (a.source == b.source) && (a.original == b.original)

abbrev pub selected : ℕ → ℕ → Selected
selected m x = record { source = m; original = x }

-- the module of a USE without ONLY
abbrev pub open_name : Using → List ℕ
open_name u = if u.has_only then [] else u.from.symbol ∷ []

-- an only-name of a module
abbrev pub only_name : ℕ → UseItem → List Selected
only_name m i = if i.is_rename then [] else selected m i.original.symbol ∷ []

abbrev pub only_names : Using → List Selected
only_names u = flat_map (only_name u.from.symbol) u.items

abbrev pub locals_in : Option (Vec ℕ Global) → List ℕ
locals_in None = []
locals_in (Some v) = v.items

-- the local names of a name of a module
abbrev pub locals_by : Selections → ℕ → ℕ → List ℕ
locals_by s m x = locals_in (get same_selected s.renamed (selected m x))

abbrev pub has_none : List ℕ → Bool
has_none [] = true
has_none (n ∷ ns) = false

abbrev pub kept_by : Selections → ℕ → ℕ → Bool
kept_by s m x = list_any (same_selected (selected m x)) s.alone.keys || (list_any (nat_eq m) s.whole.keys && has_none (locals_by s m x))

-- the local names that these items of a module give a name
abbrev pub local_name : ℕ → Selected → UseItem → List ℕ
local_name m k i = if i.is_rename && same_selected (selected m i.original.symbol) k then i.local.symbol ∷ [] else []

abbrev pub locals_from : ℕ → List UseItem → Selected → List ℕ
locals_from m items k = flat_map (local_name m k) items

-- the names of a module that these items of a module name
abbrev pub originals_from : ℕ → List UseItem → ℕ → List ℕ
originals_from from items m = if from == m then map (λ i. i.original.symbol) items else []

abbrev pub names_in : {S : Type 0} → Option (IndexSet ℕ S) → List ℕ
names_in None = []
names_in (Some s) = s.keys

-- the tables of these USE statements
pub record AreSelections (uses : List Using) (s : Selections) : Type 0 where
  pub modules : s.modules.keys ≡ modules_of uses
  pub whole : s.whole.keys ≡ insert_all nat_eq [] (flat_map open_name uses)
  pub alone : s.alone.keys ≡ insert_all same_selected [] (flat_map only_names uses)
  pub renamed : (k : Selected) → locals_in (get same_selected s.renamed k) ≡ flat_map (λ u. locals_from u.from.symbol u.items k) uses
  pub named : (m : ℕ) → names_in (get nat_eq s.named m) ≡ insert_all nat_eq [] (flat_map (λ u. originals_from u.from.symbol u.items m) uses)
