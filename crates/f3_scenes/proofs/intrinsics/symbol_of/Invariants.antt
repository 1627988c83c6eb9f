use Rattle.std.proofs.Common.{◌≡◌, nat_eq, map, drop, length}
use Rattle.std.specs.Cmp.Lexicographic.{pointwise}
use Rattle.std.specs.String.{string_bytes}
use Rattle.f3_type_rules.specs.Scene.{symbol_of}
use Rattle.f3_scenes.proofs.Symbols.{found_from}
use Rattle.f3_scenes.proofs.intrinsics.symbol_of.Given as goal

abbrev pub invariant-loop-number : goal.invariant-loop-number
invariant-loop-number l =
    found_from string_bytes (pointwise nat_eq l.text) (length (map string_bytes l.fn.names.keys)) l.number (drop l.number l.name-items) ≡ symbol_of (map string_bytes l.fn.names.keys) l.text
