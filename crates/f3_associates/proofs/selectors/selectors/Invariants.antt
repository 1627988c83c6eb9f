use Rattle.std.proofs.Common.{◌≡◌, ◌++◌, map, drop}
use Rattle.std.specs.List.{flat_map}
use Rattle.f3_tree.specs.Statements.{association_view}
use Rattle.f3_type_rules.specs.Associates.{associated}
use Rattle.f3_type_rules.specs.Bodies.{selector_rows}
use Rattle.f3_typed_parts.specs.Noted.{noted}
use Rattle.f3_sites.specs.Sites.{site_of}
use Rattle.f3_associates.proofs.selectors.selectors.Given as goal

abbrev pub invariant-loop-association : goal.invariant-loop-association
invariant-loop-association l = record {
  names : l.names.items ++ flat_map (associated (site_of l.site).context l.number) (map association_view (drop l.association-index l.list))
      ≡ flat_map (associated (site_of l.site).context l.number) (map association_view l.list);
  noted : noted l.first (selector_rows (site_of l.site) (map association_view (drop l.association-index l.list)))
      ≡ noted l.fn.first (selector_rows (site_of l.site) (map association_view l.list));
}
