use Rattle.std.proofs.Common.{◌≡◌, ◌-◌, ◌^◌, drop, length, max, min}
use Rattle.f3_word_needs.specs.Names.{parts_open}
use Rattle.f3_word_needs.proofs.needs.procedures_open.Given as goal

abbrev pub invariant-loop-at : goal.invariant-loop-at
invariant-loop-at l = max l.most (min (parts_open l.lines (drop l.at l.starts) (length l.lines)) (2 ^ 64 - 1))
    ≡ min (parts_open l.lines l.starts (length l.lines)) (2 ^ 64 - 1)
