use Rattle.std.proofs.Common.{◌≡◌, drop, map, string_bytes}
use Rattle.f3_names.specs.Texts.{longest_from}
use Rattle.f3_names.proofs.texts.longest.Given as goal

abbrev pub invariant-loop-text : goal.invariant-loop-text
invariant-loop-text l =
    longest_from l.longest (map string_bytes (drop l.text-index l.texts)) ≡ longest_from 0 (map string_bytes l.texts)
