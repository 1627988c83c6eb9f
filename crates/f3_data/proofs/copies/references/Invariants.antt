use Rattle.std.proofs.Common.{◌≡◌, take}
use Rattle.f3_data.specs.References.{references_of}
use Rattle.f3_data.proofs.copies.references.Given as goal

abbrev pub invariant-loop-original : goal.invariant-loop-original
invariant-loop-original l = references_of l.copies.items ≡ references_of (take l.original-index l.originals)
