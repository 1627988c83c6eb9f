use Rattle.std.proofs.Common.{◌≡◌, ◌≤◌, length, drop, map}
use Rattle.f3_code.specs.Lower.{allocation}
use Rattle.f3_code.specs.Code.{allocate_code}
use Rattle.f3_gen_work.specs.EmittedIn.{EmittedBy}
use Rattle.f3_gen_actions.proofs.storage.emit_allocations.Given as goal

abbrev pub invariant-loop-i : goal.invariant-loop-i
invariant-loop-i l = record {
  within : l.i ≤ length l.requests;
  begun : l.behind ≡ length l.fn.code.items;
  emitted : EmittedBy l.fn.code.items l.code.items (λ g. allocate_code l.place (map (allocation g) (drop l.i l.requests)));
}

abbrev pub decreases-loop-i : goal.decreases-loop-i
decreases-loop-i l = l.i
