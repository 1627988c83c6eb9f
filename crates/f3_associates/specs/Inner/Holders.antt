-- What the rules on definitions ask of an entity, among those of all entities.
use Rattle.std.specs.Prelude.{ℕ, List, Option, None, slice_get}
use Rattle.f3_kinds.specs.Things.{map_or}
use Rattle.f3_type_rules.specs.declared.definition.Holder.{Holder}

abbrev pub held : List (Option Holder) → ℕ → Option Holder
held holders e = map_or None (λ (h : Option Holder). h) (slice_get holders e)
