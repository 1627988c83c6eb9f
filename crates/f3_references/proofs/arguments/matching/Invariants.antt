use Rattle.std.proofs.Common.{◌≡◌, ◌&&◌, drop}
use Rattle.f3_kinds.specs.Calls.{all_fit, matched, argument_rows, no_match}
use Rattle.f3_typed_parts.specs.Noted.{noted}
use Rattle.f3_references.proofs.arguments.matching.Given as goal

abbrev pub invariant-loop-position : goal.invariant-loop-position
invariant-loop-position l = record {
  right : (l.right && all_fit l.dummies.entries l.position (drop l.position l.given) (record { taken = l.taken.keys; keyed = l.keyed })) ≡ all_fit l.dummies.entries 0 l.given no_match;
  taken : matched l.dummies.entries l.position (drop l.position l.given) (record { taken = l.taken.keys; keyed = l.keyed }) ≡ matched l.dummies.entries 0 l.given no_match;
  noted : noted l.first (argument_rows l.dummies.entries l.position (drop l.position l.given) (record { taken = l.taken.keys; keyed = l.keyed })) ≡ noted l.fn.first (argument_rows l.dummies.entries 0 l.given no_match);
}
