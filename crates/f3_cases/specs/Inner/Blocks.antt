-- The values of CASE statements, one statement after another.
use Rattle.std.specs.Prelude.{Bool, true, not, List, [], map, Option}
use Rattle.f3_places.specs.declared.source.Place.{Place}
use Rattle.f3_rules.specs.declared.rule.Rule.TheVariants.{T11}
use Rattle.f3_rules.specs.declared.breaks.Break.{Break}
use Rattle.std.specs.List.{flat_map}
use Rattle.f3_tree.specs.declared.statement.Selector.{Selector}
use Rattle.f3_tree.specs.declared.statement.Selector.TheVariants as selector
use Rattle.f3_kinds.specs.declared.types.DataType.{DataType}
use Rattle.f3_kinds.specs.Things.{Context}
use Rattle.f3_kinds.specs.Rows.{at_place, unless}
use Rattle.f3_type_rules.specs.Cases.{Span}
use Rattle.f3_cases.specs.Inner.Spans.{held_value, value_rows}

-- what the values of one statement hold, and the breaks of each by itself
abbrev pub chosen_held : Context → Option DataType → Selector → List (Span × Place)
chosen_held c t (selector.Values vs) = map (held_value c t) vs.items
chosen_held c t selector.Default = []

abbrev pub chosen_rows : Context → Option DataType → Selector → List Break
chosen_rows c t (selector.Values vs) = flat_map (value_rows c t) vs.items
chosen_rows c t selector.Default = []

-- a DEFAULT behind another one
abbrev pub next_seen : Bool → Selector → Bool
next_seen seen (selector.Values vs) = seen
next_seen seen selector.Default = true

abbrev pub default_row : Bool → Place → Selector → List Break
default_row seen p (selector.Values vs) = []
default_row seen p selector.Default = unless (not seen) (at_place 6 T11 p)
