-- The DO variables of the loops around a statement, from the innermost on.
use Rattle.std.specs.Prelude.{ℕ, List, [], ◌∷◌, Option}
use Rattle.f3_kinds.specs.Things.{map_or}
use Rattle.f3_type_rules.specs.Definitions.{Site}

-- the variable of a loop, if it has one
abbrev pub active_by : Option ℕ → List ℕ
active_by v = map_or [] (λ e. e ∷ []) v

abbrev pub with_active : List ℕ → Site → Site
with_active active s = record s { active = active }
