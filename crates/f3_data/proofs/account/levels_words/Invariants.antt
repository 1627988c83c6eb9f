use Rattle.std.proofs.Common.{◌≡◌, ◌%◌, ◌^◌, take}
use Rattle.f3_code.specs.Account.{levels_words}
use Rattle.f3_data.specs.Stores.{levels_of}
use Rattle.f3_data.proofs.account.levels_words.Given as goal

abbrev pub invariant-loop-values : goal.invariant-loop-values
invariant-loop-values l = l.sum ≡ levels_words (levels_of (take l.values-index l.levels)) % 2 ^ 64
