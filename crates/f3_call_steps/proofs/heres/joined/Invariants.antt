use Rattle.std.proofs.Common.{◌≡◌, ◌++◌, take}
use Rattle.f3_data.specs.References.{references_of}
use Rattle.f3_call_steps.proofs.heres.joined.Given as goal

abbrev pub invariant-loop-reference : goal.invariant-loop-reference
invariant-loop-reference l = references_of l.all.items ≡ references_of l.first ++ references_of (take l.reference-index l.second)
