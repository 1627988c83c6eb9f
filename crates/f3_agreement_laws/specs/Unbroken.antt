-- What breaks no rule, and has no type definition in a procedure, as no source spells one there.
use Rattle.std.specs.Prelude.{◌≡◌, ℕ, List, Some, Contains, slice_get}
use Rattle.f3_lookups.specs.declared.lookup.Lookup.{Lookup}
use Rattle.f3_access.specs.Access.{IsVisible}
use Rattle.f3_access.specs.Lookups.{Resolves}
use Rattle.f3_graph.specs.Order.{IsOrderOf}
use Rattle.f3_graph.specs.Units.{nodes_of}
use Rattle.f3_rules.specs.declared.breaks.Break.{Break}
use Rattle.f3_scope_rules.specs.ScopeBreaks.{ScopeBreaks}
use Rattle.f3_scopes.specs.Scopes.{scopes_of}
use Rattle.f3_tree.specs.Declarations.{TypeTree, SpecificationTree, defines}
use Rattle.f3_tree.specs.Tree.{ProcedureTree, UnitTree, Tree}
use Rattle.f3_meaning_whole.specs.Permitted.{Each}
use Rattle.f3_type_rules.specs.Program.{program_breaks}

abbrev pub DefinesNoTypes : List SpecificationTree → Type 0
DefinesNoTypes ss = (i : ℕ) (x : TypeTree) → slice_get ss i ≡ Some (defines x) → ⊥

-- types are defined in the parts of units alone
abbrev pub HasOuterTypes : Tree → Type 0
HasOuterTypes t = Each (λ (u : UnitTree). Each (λ (q : ProcedureTree). DefinesNoTypes (q.part).specifications) u.procedures) t.units

-- No rule on what a scope declares is broken, and none on types, constants and definitions, where names are resolved so and units stand in
-- this order.
pub record IsUnbroken (t : Tree) (look : ℕ → ℕ → Lookup) (order : List ℕ) : Type 0 where
  pub outer : HasOuterTypes t
  pub scopes : (b : Break) → ScopeBreaks (scopes_of t) b → ⊥
  pub types : (b : Break) → Contains (program_breaks t look order) b → ⊥
  pub means : (scope symbol : ℕ) → Resolves (look scope symbol) (IsVisible (scopes_of t) scope symbol)
  pub ordered : IsOrderOf (nodes_of t) order
