use Rattle.std.proofs.Common.{◌≡◌, length}
use Rattle.std.specs.List.{All}
use Rattle.f3_access.specs.Parts.{HasPlaces}
use Rattle.f3_access.proofs.filling.empty_tables.Given as goal

abbrev pub invariant-loop-made : goal.invariant-loop-made
invariant-loop-made l =
    (length l.tables.items ≡ l._made) × All HasPlaces l.tables.items
