-- Components of types.
use Rattle.std.specs.Prelude.{ℕ, List, Option, slice_get, slice_index_or, option_and_then}
use Rattle.std.specs.Option.{option_map}
use Rattle.f3_program.specs.declared.declarations.Declared.{Declared}
use Rattle.f3_program.specs.declared.declarations.Component.{Component}
use Rattle.f3_program.specs.declared.declarations.Derived.{Derived}
use Rattle.f3_meaning_whole.specs.Shape.{Shape, Whole, Logical, Record}
use Rattle.f3_type_words.specs.Tables.{offsets_from}

-- what the component of a number of the type of a number is declared as
abbrev pub declared_at : List Derived → ℕ → ℕ → Option Declared
declared_at ts number component =
    option_map (λ (c : Component). c.declared) (option_and_then (λ (t : Derived). slice_get t.components.items component) (slice_get ts number))

-- at which word of an object it begins
abbrev pub offset_at : Shape → ℕ → ℕ
offset_at Whole component = 0
offset_at Logical component = 0
offset_at (Record t parts) component = slice_index_or (offsets_from 0 parts) component 0
