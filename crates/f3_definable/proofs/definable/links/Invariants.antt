use Rattle.std.proofs.Common.{◌≡◌, drop}
use Rattle.std.specs.List.{flat_map}
use Rattle.f3_type_rules.specs.Definitions.{link_rows}
use Rattle.f3_sites.specs.Sites.{site_of}
use Rattle.f3_typed_parts.specs.Noted.{noted}
use Rattle.f3_definable.proofs.definable.links.Given as goal

abbrev pub invariant-loop-entity : goal.invariant-loop-entity
invariant-loop-entity l =
    noted l.first (flat_map (link_rows (site_of l.site) l.said) (drop l.entity-index l.entities)) ≡ noted l.fn.first (flat_map (link_rows (site_of l.site) l.said) l.entities)
