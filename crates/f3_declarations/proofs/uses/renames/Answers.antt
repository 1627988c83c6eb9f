use Rattle.f3_tree.specs.declared.declaration.Rename.{Rename}
use Rattle.f3_reading.proofs.Elements.{plain_reads, at_tokens}
use Rattle.f3_declarations.specs.Specifications.{EatsRename}
use Rattle.f3_declarations.specs.Specifications.{AreRenames}
use Rattle.f3_declarations.proofs.uses.renames.Goals as goal

pub returns-clause-read : goal.returns-clause-read
unfolding AreRenames
returns-clause-read c = plain_reads EatsRename c.list.ensures.read (λ us one k. at_tokens EatsRename (λ (x : Rename). x) k.shown.now us one k.shows k.says.met.0)
