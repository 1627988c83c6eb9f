use Rattle.std.proofs.Common.{rules, refl, ℕ, List, map, replicate}
use Rattle.std.specs.List.{flat_map}
use Rattle.f3_kinds.specs.Things.{variable}
use Rattle.f3_type_rules.specs.Names.{undeclared}
use Rattle.f3_typed_parts.specs.Known.{nature_of}
use Rattle.f3_natures.proofs.Growing.{grown_at}
use Rattle.f3_natures.proofs.natures.add_associates.Goals as goal

pub loop-count-preserved : goal.loop-count-preserved
loop-count-preserved c =
    grown_at (λ (n : ℕ). replicate n (variable undeclared)) (λ (ns : List ℕ). flat_map (λ n. replicate n (variable undeclared)) ns) (λ n ns. refl)
    c.args.constructs.now c.loop-count.count-index 0 (map nature_of c.loop-count.things.items) (map nature_of c.add_variables.new.things.items) _
    c.loop-count-test.true (search rules) c.loop-count.invariant
