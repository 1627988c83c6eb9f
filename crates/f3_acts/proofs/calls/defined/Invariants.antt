use Rattle.std.proofs.Common.{◌≡◌, drop}
use Rattle.std.specs.List.{flat_map}
use Rattle.f3_type_rules.specs.Definitions.{definition_rows, arguments_defined}
use Rattle.f3_sites.specs.Sites.{site_of}
use Rattle.f3_typed_parts.specs.Noted.{noted}
use Rattle.f3_acts.proofs.calls.defined.Given as goal

abbrev pub invariant-loop-position : goal.invariant-loop-position
invariant-loop-position l =
    noted l.first (flat_map (definition_rows (site_of l.site)) (arguments_defined l.dummies.entries l.position (drop l.position l.given)))
    ≡ noted l.fn.first (flat_map (definition_rows (site_of l.site)) (arguments_defined l.dummies.entries 0 l.given))
