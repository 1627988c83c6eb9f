use Rattle.std.proofs.Common.{rules}
use Rattle.f3_tree.specs.Declarations.{entity_view}
use Rattle.f3_reading.proofs.Elements.{list_reads, at_tokens}
use Rattle.f3_declarations.specs.Specifications.{EatsEntity}
use Rattle.f3_declarations.specs.Specifications.{AreEntities}
use Rattle.f3_declarations.proofs.declarations.entities.Goals as goal

pub returns-clause-read : goal.returns-clause-read
unfolding AreEntities
returns-clause-read c = list_reads EatsEntity entity_view c.list.ensures.read (λ us one k. at_tokens EatsEntity entity_view k.shown.now us one k.shows (search rules))
