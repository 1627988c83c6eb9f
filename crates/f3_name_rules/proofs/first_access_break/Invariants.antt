use Rattle.std.proofs.Common.{◌≡◌, drop, map, string_bytes}
use Rattle.f3_rules.specs.Least.{earlier_of, first_of}
use Rattle.f3_name_rules.specs.Inner.Rows.{scopes_row}
use Rattle.f3_name_rules.proofs.first_access_break.Given as goal

abbrev pub invariant-loop-number : goal.invariant-loop-number
invariant-loop-number l =
    earlier_of l.first (first_of (scopes_row l.tables (map string_bytes l.names.keys) l.number (drop l.number l.outlines)))
    ≡ first_of (scopes_row l.tables (map string_bytes l.names.keys) 0 l.outlines)
