use Rattle.std.proofs.Common.{◌≤◌, length, drop, map}
use Rattle.f3_code.specs.Lower.{selecting}
use Rattle.f3_code.specs.Code.{selectors_code}
use Rattle.f3_gen_work.specs.EmittedIn.{EmittedBy}
use Rattle.f3_gen_actions.proofs.selecting.emit_selectors.Given as goal

abbrev pub invariant-loop-i : goal.invariant-loop-i
invariant-loop-i l = record {
  within : l.i ≤ length l.selectors;
  emitted : EmittedBy l.fn.code.items l.code.items (λ g. selectors_code l.place (map (selecting g) (drop l.i l.selectors)));
}

abbrev pub decreases-loop-i : goal.decreases-loop-i
decreases-loop-i l = l.i
