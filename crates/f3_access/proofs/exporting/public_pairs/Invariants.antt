use Rattle.std.proofs.Common.{◌≡◌, ◌++◌, not, drop, filter}
use Rattle.f3_selecting.specs.Private.{makes_private}
use Rattle.f3_access.proofs.exporting.public_pairs.Given as goal

abbrev pub invariant-loop-pair : goal.invariant-loop-pair
invariant-loop-pair l =
    l.exports.items ++ filter (λ w. not (makes_private l.accesses w.symbol)) (drop l.pair-index l.own) ≡ filter (λ w. not (makes_private l.accesses w.symbol)) l.own
