use Rattle.std.proofs.Common.{◌≡◌, take, map}
use Rattle.f3_program.specs.declared.program.Static as y
use Rattle.f3_meaning_whole.specs.Exec.{initial_value}
use Rattle.f3_meaning_whole.specs.Run.{setting_of}
use Rattle.f3_data.specs.Values.{values_of}
use Rattle.f3_machine.proofs.start.first_statics.Given as goal

abbrev pub invariant-loop-variable : goal.invariant-loop-variable
invariant-loop-variable l = values_of l.values.items ≡ map (λ (s : y.Static). initial_value (setting_of l.program) s.declared) (take l.variable-index
    l.program.statics.items)
