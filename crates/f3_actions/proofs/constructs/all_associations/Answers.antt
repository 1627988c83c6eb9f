use Rattle.std.proofs.Common.{rules}
use Rattle.f3_tree.specs.Statements.{association_view}
use Rattle.f3_reading.proofs.Elements.{list_reads, at_tokens}
use Rattle.f3_actions.specs.Actions.{EatsAssociation, AreAssociations}
use Rattle.f3_actions.proofs.constructs.all_associations.Goals as goal

pub returns-clause-read : goal.returns-clause-read
unfolding AreAssociations
returns-clause-read c = list_reads EatsAssociation association_view c.list.ensures.read (λ us one k. at_tokens EatsAssociation association_view k.shown.now us one k.shows (search rules))
