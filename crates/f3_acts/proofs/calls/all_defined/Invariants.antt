use Rattle.std.proofs.Common.{◌≡◌, drop}
use Rattle.std.specs.List.{flat_map}
use Rattle.f3_sites.specs.Sites.{site_of}
use Rattle.f3_typed_parts.specs.Noted.{noted}
use Rattle.f3_acts.specs.Inner.Rows.{value_definition}
use Rattle.f3_acts.proofs.calls.all_defined.Given as goal

abbrev pub invariant-loop-one : goal.invariant-loop-one
invariant-loop-one l =
    noted l.first (flat_map (value_definition (site_of l.site)) (drop l.one-index l.given)) ≡ noted l.fn.first (flat_map (value_definition (site_of l.site)) l.given)
