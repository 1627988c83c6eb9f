use Rattle.std.proofs.Common.{◌≡◌, ◌++◌, map, drop}
use Rattle.f3_names.specs.Inner.Making.{among_scopes}
use Rattle.f3_names.proofs.numbering.scope_order.Given as goal

abbrev pub invariant-loop-unit : goal.invariant-loop-unit
invariant-loop-unit l =
    l.scopes.items ++ among_scopes l.numbers (map (λ u. u.number) (drop l.unit-index l.order)) ≡ among_scopes l.numbers (map (λ u. u.number) l.order)
