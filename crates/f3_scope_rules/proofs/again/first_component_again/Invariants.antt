use Rattle.std.proofs.Common.{take}
use Rattle.f3_rules.specs.Least.{Least}
use Rattle.f3_breaks.specs.Among.{Among}
use Rattle.f3_scope_rules.specs.Inner.Rows.{ComponentAgain}
use Rattle.f3_scope_rules.proofs.again.first_component_again.Given as goal

abbrev pub invariant-loop-parts : goal.invariant-loop-parts
invariant-loop-parts l = Least l.first (Among ComponentAgain (take l.parts-index l.types))
