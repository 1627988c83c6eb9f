use Rattle.std.proofs.Common.{◌≡◌, ◌+◌, map, drop}
use Rattle.f3_tree.specs.Tree.{unit_view}
use Rattle.f3_typed_parts.specs.Noted.{noted}
use Rattle.f3_sites.specs.Sites.{site_of}
use Rattle.f3_unit_bodies.specs.Bodies.{anywhere, unit_widths, units_rows}
use Rattle.f3_unit_bodies.proofs.bodies.bodies.Given as goal

abbrev pub invariant-loop-unit : goal.invariant-loop-unit
invariant-loop-unit l = record {
  noted : noted l.first (units_rows (site_of l.fn.site) l.scope (map unit_view (drop l.unit-index l.units))) ≡ noted l.fn.first (units_rows (site_of l.fn.site) l.fn.scope (map unit_view l.units));
  numbers : l.scope + unit_widths (map unit_view (drop l.unit-index l.units)) ≡ l.fn.scope + unit_widths (map unit_view l.units);
  site : anywhere (site_of l.site) ≡ anywhere (site_of l.fn.site);
}
