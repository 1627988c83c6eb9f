use Rattle.std.proofs.Common.{◌≡◌, ◌++◌, map, drop}
use Rattle.f3_sites.specs.Sites.{site_of}
use Rattle.f3_associates.specs.Standing.{standing_of}
use Rattle.f3_associates.specs.Inner.Laid.{laid}
use Rattle.f3_associates.proofs.entering.all_laid.Given as goal

abbrev pub invariant-loop-entity : goal.invariant-loop-entity
invariant-loop-entity l = map standing_of l.found.items ++ map (laid (site_of l.site).chain) (drop l.entity-index l.names) ≡ map (laid (site_of l.site).chain) l.names
