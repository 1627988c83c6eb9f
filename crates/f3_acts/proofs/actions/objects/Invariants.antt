use Rattle.std.proofs.Common.{◌≡◌, drop}
use Rattle.std.specs.List.{flat_map}
use Rattle.f3_sites.specs.Sites.{site_of}
use Rattle.f3_typed_parts.specs.Known.{context_of}
use Rattle.f3_typed_parts.specs.Noted.{noted}
use Rattle.f3_acts.specs.Inner.Rows.{object_breaks, object_definition}
use Rattle.f3_acts.proofs.actions.objects.Given as goal

abbrev pub invariant-loop-object : goal.invariant-loop-object
invariant-loop-object l = record {
  types : noted l.first (flat_map (object_breaks (context_of l.site.known l.site.at) l.fn.purpose) (drop l.object-index l.objects)) ≡ noted l.fn.first (flat_map (object_breaks (context_of l.site.known l.site.at) l.fn.purpose) l.objects);
  definitions : noted l.later (flat_map (object_definition (site_of l.site) l.fn.purpose) (drop l.object-index l.objects)) ≡ noted l.fn.later (flat_map (object_definition (site_of l.site) l.fn.purpose) l.objects);
}
