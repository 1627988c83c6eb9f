-- Breaks at names and at keywords.
use Rattle.std.specs.Prelude.{ℕ, None, Some}
use Rattle.f3_places.specs.declared.source.Place.{Place}
use Rattle.f3_rules.specs.declared.rule.Rule.{Rule}
use Rattle.f3_rules.specs.declared.breaks.Break.{Break}
use Rattle.f3_tree.specs.declared.expression.Name.{Name}

-- a rule of a phase is broken at a name
abbrev pub at : ℕ → Rule → Name → Break
at phase rule name = record { phase = phase; place = name.place; rule = rule; name = Some name.symbol }

-- a rule of a phase is broken at a keyword
abbrev pub at_keyword : ℕ → Rule → Place → Break
at_keyword phase rule place = record { phase = phase; place = place; rule = rule; name = None }
