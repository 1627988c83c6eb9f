use Rattle.std.proofs.Common.{◌≡◌, ◌%◌, ◌^◌, take}
use Rattle.f3_meaning_whole.specs.Value.{joined}
use Rattle.f3_code.specs.Account.{all_objects}
use Rattle.f3_data.specs.Values.{values_of}
use Rattle.f3_data.proofs.account.+holding.Given as goal

abbrev pub invariant-all_objects-loop-value : goal.invariant-all_objects-loop-value
invariant-all_objects-loop-value l = l.sum ≡ all_objects (joined (values_of (take l.value-index l.values))) % 2 ^ 64
