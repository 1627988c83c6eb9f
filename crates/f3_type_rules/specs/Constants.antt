-- Expressions that have to be constants (ISO/IEC 1539-1:2004, 7.1.7).
use Rattle.std.specs.Prelude.{ℕ, Bool, not, ◌||◌, List, ◌++◌, Option, None, Some}
use Rattle.f3_rules.specs.declared.rule.Rule.TheVariants.{T2}
use Rattle.f3_rules.specs.declared.breaks.Break.{Break}
use Rattle.f3_tree.specs.Expressions.{Tree}
use Rattle.f3_kinds.specs.declared.said.Has.{Has}
use Rattle.f3_kinds.specs.declared.said.Said.{Said}
use Rattle.f3_kinds.specs.Things.{Context}
use Rattle.f3_kinds.specs.Rows.{at_place, unless, is_known}
use Rattle.f3_kinds.specs.Typing.{said, breaks}

-- whether a rule may speak of the whole expression: it has a type, or breaks a rule itself where all its parts have one
abbrev pub may_speak : Bool → Option Has → Bool
may_speak parts None = parts
may_speak parts (Some h) = is_known h.data_type

abbrev pub speaks : Said → Bool
speaks s = may_speak s.are_parts_typed s.has

-- T2: an initializer, a bound or a CASE value that is not the constant that it has to be; its first token. Where a part of it
-- has no type nothing is said.
abbrev pub constant_rows : (phase : ℕ) → Context → (is_right : Bool) → Tree → List Break
constant_rows phase c is_right e = breaks c e ++ unless (not (speaks (said c e)) || is_right) (at_place phase T2 (said c e).place)
