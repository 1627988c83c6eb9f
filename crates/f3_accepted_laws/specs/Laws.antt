-- What is accepted is lawful.
use Rattle.std.specs.Prelude.{◌≡◌, ℕ, List}
use Rattle.f3_places.specs.declared.source.Source.{Source}
use Rattle.f3_tree.specs.Tree.{Tree}
use Rattle.f3_lookups.specs.declared.lookup.Lookup.{Lookup}
use Rattle.f3_graph.specs.Order.{IsOrderOf}
use Rattle.f3_graph.specs.Units.{nodes_of}
use Rattle.f3_program.specs.declared.program.Program.{Program}
use Rattle.f3_meaning_whole.specs.Permitted.{IsLawful}
use Rattle.f3_accepted.specs.Breaks.{Means}
use Rattle.f3_accepted.specs.Accepted.{Accepted}
use Rattle.f3_elaboration.specs.DeclaredViews.{program_view}
use Rattle.f3_elaboration.specs.Program.{elaborated}
use Rattle.f3_lawful_laws.specs.Entities.{EntitiesAgree}

-- the rules on types know the entities that its elaborated program has
abbrev pub EntitiesDoAgree : Type 0
EntitiesDoAgree = (sources : List Source) (t : Tree) (look : ℕ → ℕ → Lookup) (order : List ℕ) (p : Program) → Accepted sources t → Means t look
    → IsOrderOf (nodes_of t) order → program_view p ≡ elaborated t look order → EntitiesAgree p t look order

-- so the elaborated program is lawful: each change of its runs is a permitted one
abbrev pub AcceptedIsLawful : Type 0
AcceptedIsLawful = (sources : List Source) (t : Tree) (look : ℕ → ℕ → Lookup) (order : List ℕ) (p : Program) → Accepted sources t → Means t look
    → IsOrderOf (nodes_of t) order → program_view p ≡ elaborated t look order → IsLawful p
