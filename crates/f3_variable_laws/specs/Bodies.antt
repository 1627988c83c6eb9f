-- Where the bodies of a program begin: that of each unit itself, and that of each procedure.
use Rattle.std.specs.Prelude.{◌≡◌, ℕ, false, List, []}
use Rattle.f3_lookups.specs.declared.lookup.Lookup.{Lookup}
use Rattle.f3_tree.specs.declared.program.UnitKind.TheVariants as unit
use Rattle.f3_tree.specs.Tree.{UnitTree, Tree}
use Rattle.f3_program.specs.declared.program.Procedure.{Procedure}
use Rattle.f3_meaning_whole.specs.Permitted.{Each, Scope, scope_of}
use Rattle.f3_type_rules.specs.Declarations.{spot_of}
use Rattle.f3_type_rules.specs.Definitions.{Site}
use Rattle.f3_type_rules.specs.Scene.{site_in}
use Rattle.f3_phase_laws.specs.Numbers.{units_of}
use Rattle.f3_elaboration.specs.Context.{Surroundings}
use Rattle.f3_elaboration.specs.Declarations.{Whole}
use Rattle.f3_elaboration.specs.DeclaredViews.{procedure_view}
use Rattle.f3_elaboration.specs.Nodes.{ProcedureNode}
use Rattle.f3_elaboration.specs.Units.{procedure, main, in_member, in_main}
use Rattle.f3_lawful_laws.specs.Entities.{main_scope, whole_of}
use Rattle.f3_entity_laws.specs.Things.{Home, of_unit, of_member, IsHome}

-- no main program has procedures
abbrev pub IsFlat : Tree → Type 0
IsFlat t = Each (λ (u : UnitTree). u.kind ≡ unit.Program → u.procedures ≡ []) t.units

-- the elaborated procedure that has the body
abbrev pub node_of : Whole → Home → ProcedureNode
node_of w (of_unit u) = main w u
node_of w (of_member u m) = procedure w u.scope m

-- what is known there: of the source, of the elaborated procedure, and of what may be defined
abbrev pub surroundings_in : Whole → Home → Surroundings
surroundings_in w (of_unit u) = in_main w u
surroundings_in w (of_member u m) = in_member w u.scope m

abbrev pub scope_in : Home → Procedure → Scope
scope_in (of_unit u) q = main_scope q
scope_in (of_member u m) q = scope_of q

abbrev pub site_of : Whole → Home → Site
site_of w (of_unit u) = site_in w.scene u.scope u.scope false w.values
site_of w (of_member u m) = site_in w.scene u.scope m.scope (spot_of w.scene u.scope m).is_pure w.values

-- so of each body of a program
abbrev pub InBodies : Tree → (look : ℕ → ℕ → Lookup) → (order : List ℕ) → (Scope → Surroundings → Site → Type 0) → Type 0
InBodies t look order P = (h : Home) → IsHome (units_of t) h → (q : Procedure) → procedure_view q ≡ node_of (whole_of t look order) h
    → P (scope_in h q) (surroundings_in (whole_of t look order) h) (site_of (whole_of t look order) h)
