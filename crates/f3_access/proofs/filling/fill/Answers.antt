use Rattle.std.proofs.Common.{List, refl, subst}
use Rattle.std.proofs.lemmas.List.Elements.{All-set}
use Rattle.f3_scopes.specs.Outlines.{scope_view}
use Rattle.std.proofs.Common.{map}
use Rattle.f3_access.specs.declared.table.ScopeTable.{ScopeTable}
use Rattle.f3_access.specs.Parts.{HasPlaces, IsTableOf}
use Rattle.f3_access.proofs.filling.fill.Goals as goal

pub returns-clause-table : goal.returns-clause-table
returns-clause-table c = (
  c.in_ok-table.table,
  refl,
  subst (λ (l : List ScopeTable). IsTableOf (map scope_view c.args.outlines.now) l c.args.number c.in_ok-table.table) c.deref.ensures.value c.in_ok-table.ensures.table,
)

pub returns-clause-places : goal.returns-clause-places
returns-clause-places c = All-set HasPlaces c.args.tables.now.items c.args.number c.in_ok-table.table c.in_ok-table.ensures.places c.requires.places
