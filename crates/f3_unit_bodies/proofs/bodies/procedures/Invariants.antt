use Rattle.std.proofs.Common.{◌≡◌, ◌+◌, map, drop}
use Rattle.f3_tree.specs.Tree.{procedure_view}
use Rattle.f3_typed_parts.specs.Noted.{noted}
use Rattle.f3_sites.specs.Sites.{site_of}
use Rattle.f3_unit_bodies.specs.Bodies.{anywhere, widths, procedure_rows}
use Rattle.f3_unit_bodies.proofs.bodies.procedures.Given as goal

abbrev pub invariant-loop-procedure : goal.invariant-loop-procedure
invariant-loop-procedure l = record {
  noted : noted l.first (procedure_rows (site_of l.fn.site) l.fn.unit l.scope (map procedure_view (drop l.procedure-index l.list))) ≡ noted l.fn.first (procedure_rows (site_of l.fn.site) l.fn.unit l.fn.scope (map procedure_view l.list));
  numbers : l.scope + widths (map procedure_view (drop l.procedure-index l.list)) ≡ l.fn.scope + widths (map procedure_view l.list);
  site : anywhere (site_of l.site) ≡ anywhere (site_of l.fn.site);
}
