-- The phases of breaks.
use Rattle.std.specs.Prelude.{Option, None, Some, nat_lt, if◌then◌else◌}
use Rattle.f3_rules.specs.declared.breaks.Break.{Break}

-- a break, where it is of phase 5 or 6
abbrev pub of_types : Option Break → Option Break
of_types None = None
of_types (Some b) = if nat_lt b.phase 7 then Some b else None
