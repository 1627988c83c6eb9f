-- What is accepted breaks no rule, and its elaborated program is that of its tree.
use Rattle.std.proofs.Common.{◌≡◌, ℕ, List, inl, Contains}
use Rattle.f3_rules.specs.declared.breaks.Break.{Break}
use Rattle.f3_places.specs.declared.source.Source.{Source}
use Rattle.f3_tree.specs.Tree.{Tree}
use Rattle.f3_scopes.specs.Scopes.{scopes_of}
use Rattle.f3_scope_rules.specs.ScopeBreaks.{ScopeBreaks}
use Rattle.f3_name_rules.specs.NameBreaks.{NameBreaks}
use Rattle.f3_lookups.specs.declared.lookup.Lookup.{Lookup}
use Rattle.f3_graph.specs.Order.{IsOrderOf}
use Rattle.f3_graph.specs.Units.{nodes_of}
use Rattle.f3_type_rules.specs.Program.{program_breaks}
use Rattle.f3_program.specs.declared.program.Program.{Program}
use Rattle.f3_accepted.specs.Breaks.{Means}
use Rattle.f3_accepted.specs.Accepted.{Accepted, Breaks}
use Rattle.f3_elaboration.specs.DeclaredViews.{program_view}
use Rattle.f3_elaboration.specs.Program.{elaborated}
use Rattle.f3_spelled_laws.proofs.Units.{programs}
use Rattle.f3_agreement_laws.specs.Unbroken.{IsUnbroken}
use Rattle.f3_variable_laws.specs.Laws.{IsElaborated}
use Rattle.f3_accepted_laws.proofs.Outer.{outer}

module _ (sources : List Source) (t : Tree) (look : ℕ → ℕ → Lookup) (order : List ℕ) (accepted : Accepted sources t) (means : Means t look)
    (ordered : IsOrderOf (nodes_of t) order) where
  pub named : (b : Break) → NameBreaks (scopes_of t) t.names b → ⊥
  named b h = accepted.unbroken b (Breaks.of_names h)

  pub scopes : (b : Break) → ScopeBreaks (scopes_of t) b → ⊥
  scopes b h = named b (inl h)

  pub types : (b : Break) → Contains (program_breaks t look order) b → ⊥
  types b h = accepted.unbroken b (Breaks.of_types (look, order, means, ordered, h))

  pub unbroken : IsUnbroken t look order
  unbroken = record { outer = outer sources t accepted.spelled; scopes = scopes; types = types; means = means; ordered = ordered }

  pub elaborates : (p : Program) → program_view p ≡ elaborated t look order → IsElaborated p t look order
  elaborates p seen = record { means = means; named = named; flat = programs sources t accepted.spelled; seen = seen }
