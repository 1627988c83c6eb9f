use Rattle.std.proofs.Common.{◌≡◌, ◌++◌, map, replicate}
use Rattle.f3_kinds.specs.Things.{variable}
use Rattle.f3_type_rules.specs.Names.{undeclared}
use Rattle.f3_typed_parts.specs.Known.{nature_of}
use Rattle.f3_natures.proofs.natures.add_variables.Given as goal

abbrev pub invariant-loop-name : goal.invariant-loop-name
invariant-loop-name l = map nature_of l.things.items ≡ map nature_of l.fn.things.items ++ replicate l._name (variable undeclared)
