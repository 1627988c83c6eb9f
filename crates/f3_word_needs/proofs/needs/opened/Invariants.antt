use Rattle.std.proofs.Common.{◌≡◌, ◌≤◌, ◌-◌, ◌^◌, drop, max}
use Rattle.f3_word_needs.specs.Names.{deepest_among, open_among}
use Rattle.f3_word_needs.proofs.needs.opened.Given as goal

abbrev pub invariant-loop-line : goal.invariant-loop-line
invariant-loop-line l = record {
  fits : l.most ≤ 2 ^ 64 - 1;
  least : l.now ≤ l.most;
  same : max l.most (deepest_among l.now (drop l.line-index l.lines)) ≡ open_among l.lines;
}
