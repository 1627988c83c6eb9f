use Rattle.std.proofs.Common.{◌≡◌, ◌++◌, map, drop}
use Rattle.f3_scopes.specs.Outlines.{scope_view}
use Rattle.f3_names.specs.Inner.Making.{unit_numbers}
use Rattle.f3_names.proofs.numbering.unit_numbers.Given as goal

abbrev pub invariant-loop-number : goal.invariant-loop-number
invariant-loop-number l =
    l.numbers.items ++ unit_numbers l.number (map scope_view (drop l.number l.outlines)) ≡ unit_numbers 0 (map scope_view l.outlines)
