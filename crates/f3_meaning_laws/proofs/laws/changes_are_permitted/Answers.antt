use Rattle.f3_meaning_laws.proofs.Changes.{changes_are_permitted}
use Rattle.f3_meaning_laws.proofs.laws.changes_are_permitted.Goals as goal

pub returns : goal.returns
returns c = changes_are_permitted
