use Rattle.std.proofs.Common.{◌≡◌, drop}
use Rattle.f3_kinds.specs.Calls.{matched, argument_rows, no_match}
use Rattle.f3_typed_parts.specs.Noted.{noted}
use Rattle.f3_acts.proofs.moving.matching.Given as goal

abbrev pub invariant-loop-position : goal.invariant-loop-position
invariant-loop-position l = record {
  taken : matched l.dummies l.position (drop l.position l.given) (record { taken = l.taken.keys; keyed = l.keyed }) ≡ matched l.dummies 0 l.given no_match;
  noted : noted l.first (argument_rows l.dummies l.position (drop l.position l.given) (record { taken = l.taken.keys; keyed = l.keyed })) ≡ noted l.fn.first (argument_rows l.dummies 0 l.given no_match);
}
