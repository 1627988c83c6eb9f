-- What is accepted makes sense.
use Rattle.std.specs.Prelude.{◌≡◌, ℕ, List}
use Rattle.f3_places.specs.declared.source.Source.{Source}
use Rattle.f3_tree.specs.Tree.{Tree}
use Rattle.f3_lookups.specs.declared.lookup.Lookup.{Lookup}
use Rattle.f3_graph.specs.Order.{IsOrderOf}
use Rattle.f3_graph.specs.Units.{nodes_of}
use Rattle.f3_program.specs.declared.program.Program.{Program}
use Rattle.f3_meaning_whole.specs.Formed.{IsWellFormed}
use Rattle.f3_accepted.specs.Breaks.{Means}
use Rattle.f3_accepted.specs.Accepted.{Accepted}
use Rattle.f3_elaboration.specs.DeclaredViews.{program_view}
use Rattle.f3_elaboration.specs.Program.{elaborated}

-- the elaborated program of what is accepted makes sense
abbrev pub AcceptedMakesSense : Type 0
AcceptedMakesSense = (sources : List Source) (t : Tree) (look : ℕ → ℕ → Lookup) (order : List ℕ) (p : Program) → Accepted sources t → Means t look
    → IsOrderOf (nodes_of t) order → program_view p ≡ elaborated t look order → IsWellFormed p
