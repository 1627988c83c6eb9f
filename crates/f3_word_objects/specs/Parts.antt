-- Components of objects in words.
use Rattle.std.specs.Prelude.{◌≡◌, ℕ, Option, None, Some}
use Rattle.f3_program.specs.declared.declarations.Component.{Component}
use Rattle.f3_meaning_whole.specs.Act.{component_of}
use Rattle.f3_meaning_whole.specs.Shape.{shape_in}
use Rattle.f3_room_places.specs.declared.types.Types.{Types}
use Rattle.f3_room_places.specs.Components.{offset_at}
use Rattle.f3_room_places.specs.Places.{shapes}
use Rattle.f3_word_cells.specs.declared.cell.Area.{Area}
use Rattle.f3_word_cells.specs.declared.cell.Object.{Object}
use Rattle.f3_word_cells.specs.declared.cell.Object.TheVariants as o
use Rattle.f3_word_areas.specs.Parts.{IsPartOf}

-- the component of a number of an area
pub record IsComponent (types : Types) (k : ℕ) (a : Area) (z : Object) : Type 0 where
  pub component : Component
  pub part : Area
  pub is : component_of types.derived.now a.of k ≡ Some component
  pub stands : z ≡ o.Stands part
  pub begins : IsPartOf (shapes types) component.declared (offset_at (shape_in (shapes types) a.of) k) a part

-- the component of a number of an object, or there is none
abbrev pub Located : Types → ℕ → Object → Option Object → Type 0
Located types k (o.Held of v) None = Unit {0}
Located types k (o.Held of v) (Some z) = ⊥
Located types k (o.Stands a) None = component_of types.derived.now a.of k ≡ None
Located types k (o.Stands a) (Some z) = IsComponent types k a z
