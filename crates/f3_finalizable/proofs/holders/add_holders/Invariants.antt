use Rattle.std.proofs.Common.{◌≡◌, drop}
use Rattle.f3_finalizable.specs.Inner.Holders.{rows_of, hold_all}
use Rattle.f3_finalizable.proofs.holders.add_holders.Given as goal

abbrev pub invariant-loop-place : goal.invariant-loop-place
invariant-loop-place l = hold_all (rows_of l.holders.items) l.holder (drop l.place l.components.entries) ≡ hold_all (rows_of l.fn.holders.items) l.holder l.components.entries
