use Rattle.std.proofs.Common.{◌≡◌, ◌%◌, ◌^◌, take, map}
use Rattle.f3_meaning_whole.specs.Exec.{initial_value}
use Rattle.f3_meaning_whole.specs.Run.{setting_of}
use Rattle.f3_code.specs.Account.{level_words}
use Rattle.f3_requests.proofs.words.variables_words.Given as goal

abbrev pub invariant-loop-variable : goal.invariant-loop-variable
invariant-loop-variable l = l.total ≡ level_words (map (initial_value (setting_of l.program)) (take l.variable-index l.declared)) % 2 ^ 64
