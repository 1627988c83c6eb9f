use Rattle.std.proofs.Common.{◌≡◌, ◌++◌, map, drop}
use Rattle.std.specs.String.{string_bytes}
use Rattle.f3_type_rules.specs.Scene.{intrinsic_of}
use Rattle.f3_scenes.proofs.intrinsics.intrinsics.Given as goal

abbrev pub invariant-loop-name : goal.invariant-loop-name
invariant-loop-name l =
    l.found.items ++ map intrinsic_of (map string_bytes (drop l.name-index l.name-items)) ≡ map intrinsic_of (map string_bytes l.fn.names.keys)
