use Rattle.std.proofs.Common.{◌≡◌, ◌+◌}
use Rattle.std.specs.Option.{option_map_or}
use Rattle.f3_access.specs.Pairs.{outward_from}
use Rattle.f3_access.specs.Parts.{holder_among, holder_at}
use Rattle.f3_access.proofs.reading.holder.Given as goal

abbrev pub invariant-loop-around : goal.invariant-loop-around
invariant-loop-around l = holder_among l.tables.scopes.items (outward_from l.tables.scopes.items l.around) l.symbol ≡ holder_at l.tables.scopes.items l.scope l.symbol

abbrev pub decreases-loop-around : goal.decreases-loop-around
decreases-loop-around l = option_map_or (λ n. n + 1) l.around 0
