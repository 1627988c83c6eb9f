-- Components by their names.
use Rattle.std.specs.Prelude.{ℕ, List, Option, option_map}
use Rattle.f3_kinds.specs.declared.things.Component.{Component}
use Rattle.f3_kinds.specs.declared.types.Object.{Object}
use Rattle.f3_kinds.specs.Things.{component_of}
use Rattle.f3_elaboration.specs.Expressions.{number_of}

-- the number of the component of this name, and what it is declared as
abbrev pub found_in : List (ℕ × Component) → (symbol : ℕ) → Option (ℕ × Object)
found_in ks symbol = option_map (λ (k : Component). (number_of ks symbol, k.object)) (component_of ks symbol)
