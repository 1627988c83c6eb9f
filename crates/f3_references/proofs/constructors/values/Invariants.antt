use Rattle.std.proofs.Common.{◌≡◌, drop}
use Rattle.f3_kinds.specs.Calls.{constructor_given}
use Rattle.f3_typed_parts.specs.Noted.{noted}
use Rattle.f3_references.proofs.constructors.values.Given as goal

abbrev pub invariant-loop-position : goal.invariant-loop-position
invariant-loop-position l =
    noted l.first (constructor_given l.inside l.components.entries l.position (drop l.position l.given)) ≡ noted l.fn.first (constructor_given l.inside l.components.entries 0 l.given)
