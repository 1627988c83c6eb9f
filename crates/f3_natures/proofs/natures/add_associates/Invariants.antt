use Rattle.std.proofs.Common.{◌≡◌, ◌++◌, map, drop, replicate}
use Rattle.std.specs.List.{flat_map}
use Rattle.f3_kinds.specs.Things.{variable}
use Rattle.f3_type_rules.specs.Names.{undeclared}
use Rattle.f3_typed_parts.specs.Known.{nature_of}
use Rattle.f3_natures.proofs.natures.add_associates.Given as goal

abbrev pub invariant-loop-count : goal.invariant-loop-count
invariant-loop-count l =
    map nature_of l.things.items ++ flat_map (λ n. replicate n (variable undeclared)) (drop l.count-index l.constructs)
    ≡ map nature_of l.fn.things.items ++ flat_map (λ n. replicate n (variable undeclared)) l.constructs
