use Rattle.std.proofs.Common.{sym, subst}
use Rattle.std.specs.List.{All}
use Rattle.std.proofs.lemmas.List.Elements.{All-push}
use Rattle.f3_access.specs.Parts.{HasPlaces}
use Rattle.f3_access.proofs.filling.add_table.Goals as goal

pub returns-clause-places : goal.returns-clause-places
returns-clause-places c = subst (All HasPlaces) (sym c.in_ok-push.ensures.items) (All-push HasPlaces c.args.tables.now.items c.args.table c.requires.tables c.requires.table)
