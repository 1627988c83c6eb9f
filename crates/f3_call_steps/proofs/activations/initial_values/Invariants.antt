use Rattle.std.proofs.Common.{◌≡◌, take, map}
use Rattle.f3_meaning_whole.specs.Exec.{initial_value}
use Rattle.f3_meaning_whole.specs.Run.{setting_of}
use Rattle.f3_data.specs.Values.{values_of}
use Rattle.f3_call_steps.proofs.activations.initial_values.Given as goal

abbrev pub invariant-loop-variable : goal.invariant-loop-variable
invariant-loop-variable l = values_of l.values.items ≡ map (initial_value (setting_of l.program)) (take l.variable-index l.declared)
