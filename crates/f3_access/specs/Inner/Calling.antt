-- How a scope calls what modules export, by the tables of its USE statements.
use Rattle.std.specs.Prelude.{◌≡◌, ℕ, List, [], ◌∷◌, false, nat_eq, if◌then◌else◌, ◌++◌, map}
use Rattle.std.specs.List.{list_any}
use Rattle.indexmap.specs.IndexMap.{get}
use Rattle.f3_selecting.specs.declared.selecting.Selections.{Selections}
use Rattle.f3_selecting.specs.Selecting.{locals_by, kept_by, names_in}
use Rattle.f3_lookups.specs.declared.lookup.Visible.{Visible}
use Rattle.f3_access.specs.Listing.{pair}

abbrev pub called_by : Selections → ℕ → Visible → List Visible
called_by s m e = (if kept_by s m e.symbol then e ∷ [] else []) ++ map (λ n. pair n e.entity) (locals_by s m e.symbol)

-- Where all USE statements of a module have ONLY, a name of it that no item names is not called anything.
abbrev pub OnlyNamed : Selections → Type 0
OnlyNamed s =
    (m : ℕ) (e : Visible) → list_any (nat_eq m) s.whole.keys ≡ false
    → list_any (nat_eq e.symbol) (names_in (get nat_eq s.named m)) ≡ false → called_by s m e ≡ []
