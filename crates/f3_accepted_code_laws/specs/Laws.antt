-- What is accepted has code with cells of known kinds.
use Rattle.std.specs.Prelude.{◌≡◌, ◌<◌, ℕ, Bool, List, length, Some}
use Rattle.f3_places.specs.declared.source.Source.{Source}
use Rattle.f3_tree.specs.Tree.{Tree}
use Rattle.f3_lookups.specs.declared.lookup.Lookup.{Lookup}
use Rattle.f3_graph.specs.Order.{IsOrderOf}
use Rattle.f3_graph.specs.Units.{nodes_of}
use Rattle.f3_program.specs.declared.program.Program.{Program}
use Rattle.f3_accepted.specs.Breaks.{Means}
use Rattle.f3_accepted.specs.Accepted.{Accepted}
use Rattle.f3_elaboration.specs.DeclaredViews.{program_view}
use Rattle.f3_elaboration.specs.Program.{elaborated}
use Rattle.f3_code.specs.Lower.{lowered_program}
use Rattle.f3_code.specs.Code.{program_code}
use Rattle.f3_code.specs.State.{State}
use Rattle.f3_heights.specs.Room.{state_after}
use Rattle.f3_cell_kinds.specs.Holds.{Fits}
use Rattle.f3_cell_kinds.specs.Kinds.{AreKinds}
use Rattle.f3_cell_kinds.specs.Laws.{site_at}
use Rattle.f3_cell_kinds.specs.Program.{program_sites}
use Rattle.f3_cell_kinds.specs.Sense.{MakesSense}
use Rattle.f3_cell_kinds.specs.Stands.{Stands}

-- so of the elaborated program of what is accepted
abbrev pub OfAccepted : (Program → Type 0) → Type 0
OfAccepted P = (sources : List Source) (t : Tree) (look : ℕ → ℕ → Lookup) (order : List ℕ) (p : Program) → Accepted sources t → Means t look
    → IsOrderOf (nodes_of t) order → program_view p ≡ elaborated t look order → P p

-- it has all that code of known kinds asks
abbrev pub AcceptedFits : Type 0
AcceptedFits = OfAccepted MakesSense

-- so the kind of each cell of the stack is known at each line of its code before a run
abbrev pub AcceptedCodeHasKinds : Type 0
AcceptedCodeHasKinds = OfAccepted (λ (p : Program). (length (program_sites p) ≡ length (program_code (lowered_program p)).lines)
    × AreKinds p (site_at p) (program_code (lowered_program p)))

-- and in each state of each of its runs cells hold what these kinds say, as long as objects have stood in the store before
abbrev pub AcceptedRunsHold : Type 0
AcceptedRunsHold = OfAccepted (λ (p : Program). (limit : ℕ) (answers : ℕ → Bool) (k : ℕ) (s : State) →
    ((j : ℕ) (t : State) → j < k → state_after limit (lowered_program p) (program_code (lowered_program p)) answers j ≡ Some t →
    Stands p (site_at p) t) →
    state_after limit (lowered_program p) (program_code (lowered_program p)) answers k ≡ Some s → Fits p.types.items (site_at p) s)
