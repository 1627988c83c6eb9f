use Rattle.std.proofs.Common.{◌≡◌, ◌%◌, ◌^◌, take}
use Rattle.f3_code.specs.Account.{level_words}
use Rattle.f3_data.specs.Values.{values_of}
use Rattle.f3_data.proofs.account.+counting.Given as goal

abbrev pub invariant-level_words-loop-value : goal.invariant-level_words-loop-value
invariant-level_words-loop-value l = l.sum ≡ level_words (values_of (take l.value-index l.values)) % 2 ^ 64
