use Rattle.std.proofs.Common.{◌≡◌, ◌-◌, ◌^◌, drop, length, max, min}
use Rattle.f3_word_needs.specs.Names.{names_among}
use Rattle.f3_word_needs.proofs.needs.procedures_names.Given as goal

abbrev pub invariant-loop-at : goal.invariant-loop-at
invariant-loop-at l = max l.most (min (names_among l.lines (drop l.at l.starts) (length l.lines) (drop l.at l.procedures)) (2 ^ 64 - 1))
    ≡ min (names_among l.lines l.starts (length l.lines) l.procedures) (2 ^ 64 - 1)
