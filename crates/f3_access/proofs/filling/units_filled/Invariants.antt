use Rattle.std.proofs.Common.{◌≡◌, ◌<◌, ℕ, length, map, get_or}
use Rattle.std.specs.List.{All}
use Rattle.f3_scopes.specs.Outlines.{scope_view}
use Rattle.f3_access.specs.Parts.{HasPlaces, Stands}
use Rattle.f3_access.proofs.filling.units_filled.Given as goal

abbrev pub invariant-loop-at : goal.invariant-loop-at
invariant-loop-at l =
    (length l.tables.items ≡ length l.outlines)
    × ((k : ℕ) → k < l.at-index → Stands (map scope_view l.outlines) l.tables.items (get_or l.order k 0))
    × All HasPlaces l.tables.items
