use Rattle.std.proofs.Common.{◌≡◌, drop, map}
use Rattle.std.specs.List.{list_any}
use Rattle.f3_scopes.specs.Outlines.{listed_view}
use Rattle.f3_selecting.specs.Private.{is_default}
use Rattle.f3_selecting.proofs.choosing.has_default.Given as goal

abbrev pub invariant-loop-statement : goal.invariant-loop-statement
invariant-loop-statement l =
    list_any is_default (map listed_view (drop l.statement-index l.statements)) ≡ list_any is_default (map listed_view l.statements)
