use Rattle.std.proofs.Common.{◌≡◌, [], drop, length, map, replicate}
use Rattle.f3_typed_parts.specs.Known.{nature_of}
use Rattle.f3_finalizable.specs.Inner.Holders.{rows_of, hold_each}
use Rattle.f3_finalizable.proofs.holders.holders.Given as goal

abbrev pub invariant-loop-entity : goal.invariant-loop-entity
invariant-loop-entity l =
    hold_each (rows_of l.holders.items) l.entity (map nature_of (drop l.entity l.things)) ≡ hold_each (replicate (length l.things) []) 0 (map nature_of l.things)
