use Rattle.std.proofs.Common.{◌≡◌, length, map}
use Rattle.std.specs.List.{All}
use Rattle.f3_scopes.specs.Outlines.{scope_view}
use Rattle.f3_access.specs.Parts.{HasPlaces, Done}
use Rattle.f3_access.proofs.filling.inner_filled.Given as goal

abbrev pub invariant-loop-number : goal.invariant-loop-number
invariant-loop-number l = (length l.tables.items ≡ length l.outlines) × Done (map scope_view l.outlines) l.tables.items l.number × All HasPlaces l.tables.items
