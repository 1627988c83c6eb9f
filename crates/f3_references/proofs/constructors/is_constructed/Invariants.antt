use Rattle.std.proofs.Common.{◌≡◌, ◌&&◌, drop}
use Rattle.f3_kinds.specs.Calls.{in_order, matched, no_match}
use Rattle.f3_references.proofs.constructors.is_constructed.Given as goal

abbrev pub invariant-loop-position : goal.invariant-loop-position
invariant-loop-position l = record {
  right : (l.right && in_order l.components.entries l.position (drop l.position l.given) (record { taken = l.taken.keys; keyed = l.keyed })) ≡ in_order l.components.entries 0 l.given no_match;
  taken : matched l.components.entries l.position (drop l.position l.given) (record { taken = l.taken.keys; keyed = l.keyed }) ≡ matched l.components.entries 0 l.given no_match;
}
