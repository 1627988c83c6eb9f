use Rattle.std.proofs.Common.{◌≡◌, ◌++◌, map, drop, length}
use Rattle.f3_access.specs.Tables.{lookup_of}
use Rattle.f3_tree.specs.Statements.{association_view}
use Rattle.f3_inside.specs.Entities.{entity_at}
use Rattle.f3_inside.specs.Exchanged.{lent_from}
use Rattle.f3_inside.proofs.names.lend.Given as goal

abbrev pub invariant-loop-association : goal.invariant-loop-association
invariant-loop-association l = record {
  lent : l.lent.items ++ map (entity_at (lookup_of l.tables) l.number) (map association_view (drop l.association-index l.list))
      ≡ l.fn.lent.items ++ map (entity_at (lookup_of l.tables) l.number) (map association_view l.list);
  names : l.names.items ++ lent_from (length l.lent.items) (map (entity_at (lookup_of l.tables) l.number) (map association_view (drop l.association-index l.list)))
      ≡ lent_from (length l.fn.lent.items) (map (entity_at (lookup_of l.tables) l.number) (map association_view l.list));
}
