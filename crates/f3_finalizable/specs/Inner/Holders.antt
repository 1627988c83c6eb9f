-- For each entity the types that have a component of it.
use Rattle.std.specs.Prelude.{ℕ, ◌+◌, List, [], ◌∷◌, ◌++◌, Option, None, Some, map, slice_set}
use Rattle.std.specs.List.{slice_index_or}
use Rattle.std.specs.Global.{Vec}
use Rattle.f3_kinds.specs.declared.types.DataType.{DataType}
use Rattle.f3_kinds.specs.declared.types.DataType.TheVariants.{Derived}
use Rattle.f3_kinds.specs.declared.things.Component.{Component}
use Rattle.f3_kinds.specs.Things.{Nature, derived}

abbrev pub derived_of : Option DataType → Option ℕ
derived_of (Some (Derived e)) = Some e
derived_of _ = None

abbrev pub part_of : Component → Option ℕ
part_of k = derived_of (k.object).data_type

abbrev pub rows_of : List (Vec ℕ) → List (List ℕ)
rows_of g = map (λ v. v.items) g

-- an entity is added as a holder of a part
abbrev pub hold : List (List ℕ) → (holder : ℕ) → (part : Option ℕ) → List (List ℕ)
hold rows i None = rows
hold rows i (Some e) = slice_set rows e (slice_index_or rows e [] ++ i ∷ [])

abbrev pub hold_all : List (List ℕ) → (holder : ℕ) → List (ℕ × Component) → List (List ℕ)
hold_all rows i [] = rows
hold_all rows i (k ∷ ks) = hold_all (hold rows i (part_of k.1)) i ks

abbrev pub hold_thing : List (List ℕ) → (holder : ℕ) → Nature → List (List ℕ)
hold_thing rows i (derived home ks f) = hold_all rows i ks
hold_thing rows i _ = rows

abbrev pub hold_each : List (List ℕ) → (holder : ℕ) → List Nature → List (List ℕ)
hold_each rows i [] = rows
hold_each rows i (n ∷ ns) = hold_each (hold_thing rows i n) (i + 1) ns
