-- Of the orders of a program's units in which used modules come first it is no matter which is taken.
use Rattle.std.specs.Prelude.{◌≡◌, ℕ, List, Option, None, Some, Contains, slice_get}
use Rattle.f3_places.specs.declared.source.Place.{Place}
use Rattle.f3_rules.specs.declared.breaks.Break.{Break}
use Rattle.f3_rules.specs.Least.{first_of}
use Rattle.f3_tree.specs.Tree.{UnitTree, Tree}
use Rattle.f3_scopes.specs.Outlines.{Scope}
use Rattle.f3_scopes.specs.Scopes.{scopes_of}
use Rattle.f3_lookups.specs.declared.lookup.Lookup.{Lookup}
use Rattle.f3_lookups.specs.declared.lookup.Lookup.TheVariants.{One}
use Rattle.f3_access.specs.Access.{IsVisible}
use Rattle.f3_access.specs.Lookups.{Resolves}
use Rattle.f3_graph.specs.Units.{nodes_of}
use Rattle.f3_graph.specs.Order.{IsOrderOf}
use Rattle.f3_type_rules.specs.Program.{program_breaks}
use Rattle.f3_order_laws.specs.Places.{unit_places}

-- the one entity that is answered for a name in a scope is visible there under this name
abbrev pub AnswersVisible : List Scope → (ℕ → ℕ → Lookup) → Type 0
AnswersVisible scopes look = (scope symbol entity : ℕ) → look scope symbol ≡ One entity → IsVisible scopes scope symbol entity

-- which holds where one entity, none or several are answered as one, none or several are visible
abbrev pub ResolvedIsVisible : Type 0
ResolvedIsVisible = (scopes : List Scope) (look : ℕ → ℕ → Lookup)
    → ((scope symbol : ℕ) → Resolves (look scope symbol) (IsVisible scopes scope symbol)) → AnswersVisible scopes look

-- Each break along one order is one along each other.
abbrev pub OrdersAreAlike : Type 0
OrdersAreAlike = (t : Tree) (look : ℕ → ℕ → Lookup) (o p : List ℕ)
    → AnswersVisible (scopes_of t) look → IsOrderOf (nodes_of t) o → IsOrderOf (nodes_of t) p
    → (b : Break) → Contains (program_breaks t look o) b → Contains (program_breaks t look p) b

-- ---- the first break

-- none of both, or two of one rule at one place, in one phase
abbrev pub AreAlike : Option Break → Option Break → Type 0
AreAlike None None = Unit {0}
AreAlike None (Some c) = ⊥
AreAlike (Some b) None = ⊥
AreAlike (Some b) (Some c) = (b.phase ≡ c.phase) × (b.place ≡ c.place) × (b.rule ≡ c.rule)

abbrev pub FirstsAreAlike : Type 0
FirstsAreAlike = (t : Tree) (look : ℕ → ℕ → Lookup) (o p : List ℕ)
    → AnswersVisible (scopes_of t) look → IsOrderOf (nodes_of t) o → IsOrderOf (nodes_of t) p
    → AreAlike (first_of (program_breaks t look o)) (first_of (program_breaks t look p))

-- No two units have a place in common, in their specification parts and headers.
abbrev pub PlacesDiffer : Tree → Type 0
PlacesDiffer t = (i j : ℕ) (u v : UnitTree) (place : Place) → slice_get t.units i ≡ Some u → slice_get t.units j ≡ Some v
    → Contains (unit_places u) place → Contains (unit_places v) place → i ≡ j

-- then the first break is one, with its name
abbrev pub FirstsAreOne : Type 0
FirstsAreOne = (t : Tree) (look : ℕ → ℕ → Lookup) (o p : List ℕ)
    → AnswersVisible (scopes_of t) look → IsOrderOf (nodes_of t) o → IsOrderOf (nodes_of t) p → PlacesDiffer t
    → first_of (program_breaks t look o) ≡ first_of (program_breaks t look p)
