-- What phases 5 to 7 break of a program.
use Rattle.std.specs.Prelude.{◌≡◌, ℕ, ◌<◌, List, Contains}
use Rattle.f3_lookups.specs.declared.lookup.Lookup.{Lookup}
use Rattle.f3_access.specs.Access.{IsVisible}
use Rattle.f3_access.specs.Lookups.{Resolves}
use Rattle.f3_graph.specs.Order.{IsOrderOf}
use Rattle.f3_graph.specs.Units.{nodes_of}
use Rattle.f3_rules.specs.declared.breaks.Break.{Break}
use Rattle.f3_scopes.specs.Scopes.{scopes_of}
use Rattle.f3_tree.specs.Tree.{Tree}
use Rattle.f3_type_rules.specs.Program.{program_breaks}

-- This is what names mean in the scopes of a program: one, none or several of the entities that are visible there.
abbrev pub Means : Tree → (ℕ → ℕ → Lookup) → Type 0
Means t look = (scope symbol : ℕ) → Resolves (look scope symbol) (IsVisible (scopes_of t) scope symbol)

-- A rule on types, shapes, constants or definitions is broken, with what names mean, along an order of the units in which used modules
-- come first.
abbrev pub TypeBreaks : Tree → Break → Type 0
TypeBreaks t b = (look : ℕ → ℕ → Lookup) × (order : List ℕ) × Means t look × IsOrderOf (nodes_of t) order × Contains (program_breaks t look order) b

-- a rule on types, shapes or constants is broken: those are of phases 5 and 6
abbrev pub BreaksOfTypes : Tree → Break → Type 0
BreaksOfTypes t b = TypeBreaks t b × (b.phase < 7)

-- a rule on definitions is broken: those are of phase 7
abbrev pub BreaksOfDefinitions : Tree → Break → Type 0
BreaksOfDefinitions t b = TypeBreaks t b × (b.phase ≡ 7)
