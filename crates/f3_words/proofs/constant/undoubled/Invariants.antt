use Rattle.std.proofs.Common.{◌≡◌, ◌++◌, drop}
use Rattle.f3_words.specs.Constants.{undoubled}
use Rattle.f3_words.proofs.Characters.{to_come}
use Rattle.f3_words.proofs.constant.undoubled.Given as goal

abbrev pub invariant-loop-byte : goal.invariant-loop-byte
invariant-loop-byte l = l.characters.items ++ to_come l.is_behind l.quote (drop l.byte-index l.bytes) ≡ undoubled l.quote l.bytes
