use Rattle.std.proofs.Common.{◌≡◌, ◌≤◌, length, drop, map}
use Rattle.f3_code.specs.Lower.{deallocation}
use Rattle.f3_code.specs.Code.{deallocate_code}
use Rattle.f3_gen_work.specs.EmittedIn.{EmittedIn}
use Rattle.f3_gen_actions.proofs.storage.emit_deallocations.Given as goal

abbrev pub invariant-loop-i : goal.invariant-loop-i
invariant-loop-i l = record {
  within : l.i ≤ length l.requests;
  begun : l.behind ≡ length l.fn.code.items;
  emitted : EmittedIn l.types l.fn.code.items l.code.items (λ g. deallocate_code (length l.types) l.place (map (deallocation g) (drop l.i l.requests)));
}

abbrev pub decreases-loop-i : goal.decreases-loop-i
decreases-loop-i l = l.i
