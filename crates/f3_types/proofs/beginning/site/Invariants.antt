use Rattle.std.proofs.Common.{◌≡◌, Some, map, take}
use Rattle.f3_types.proofs.beginning.site.Given as goal

abbrev pub invariant-loop-holder : goal.invariant-loop-holder
invariant-loop-holder l = l.asked.items ≡ map Some (take l.holder-index l.holders)
