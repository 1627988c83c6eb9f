-- Components of each element of an array in words, and elements of these (ISO/IEC 1539-1:2004, 6.1.2).
use Rattle.std.specs.Prelude.{⊤, ◌≡◌, ◌≢◌, ℕ, nat_abs, ◌-ℤ◌, ◌+◌, ◌*◌, ◌%◌, ◌^◌, true, false, List, [], ◌∷◌, Option, None, Some, Result, Ok, Err}
use Rattle.f3_program.specs.declared.declarations.Component.{Component}
use Rattle.f3_program.specs.declared.declarations.Dimension.{Dimension}
use Rattle.f3_meaning_whole.specs.Act.{Chosen, At, Range, all_inside, component_of, is_inside, places_in}
use Rattle.f3_meaning_whole.specs.Shape.{shape_in, spans_declared}
use Rattle.f3_meaning_whole.specs.Value.{Span}
use Rattle.f3_meaning_whole.specs.declared.run_error.RunError.TheVariants.{SubscriptOutOfBounds}
use Rattle.f3_rooms.specs.Forms.{words_for}
use Rattle.f3_room_places.specs.declared.types.Types.{Types}
use Rattle.f3_room_places.specs.Components.{offset_at}
use Rattle.f3_room_places.specs.Places.{shapes}
use Rattle.f3_word_cells.specs.declared.cell.Area.{Area}
use Rattle.f3_word_cells.specs.declared.cell.Cell.{Cell}
use Rattle.f3_word_cells.specs.declared.cell.Cell.TheVariants as c
use Rattle.f3_word_cells.specs.declared.cell.Object.{Object}
use Rattle.f3_word_cells.specs.declared.cell.Object.TheVariants as o
use Rattle.f3_word_cells.specs.declared.state.Stop.{Stop}
use Rattle.f3_word_cells.specs.declared.state.Stop.TheVariants as stop
use Rattle.f3_word_areas.specs.Parts.{moved_from_one}
use Rattle.f3_word_objects.specs.Parts.{Located}
use Rattle.f3_word_objects.specs.Picks.{Picks}
use Rattle.f3_word_objects.specs.Shapes.{dims_of}

-- the component of a number of a single object, or of each element of an array
abbrev pub IsBeside : Types → ℕ → Object → Option Cell → Type 0
IsBeside types k z None = (dims_of z ≡ []) × Located types k z None
IsBeside types k z (Some (c.Object y)) = (dims_of z ≡ []) × Located types k z (Some y)
IsBeside types k z (Some (c.Each a n)) = (dims_of z ≢ []) × (z ≡ o.Stands a) × (n ≡ k)
IsBeside types k z (Some x) = ⊥

-- subscripts alone, and no triplet
abbrev pub AreSingle : List Chosen → Type 0
AreSingle [] = ⊤
AreSingle (At z ∷ cs) = AreSingle cs
AreSingle (Range lower upper step ∷ cs) = ⊥

-- a declared dimension
abbrev pub span_declared : Dimension → Span
span_declared d = record { lower = d.lower; extent = d.extent }

-- the place of a subscript among those of a dimension, counted from 0, or it is out of bounds; a triplet has none
abbrev pub IsPlaceIn : Span → Chosen → Option ℕ → Type 0
IsPlaceIn s (At z) None = is_inside s (z ∷ []) ≡ false
IsPlaceIn s (At z) (Some k) = (is_inside s (z ∷ []) ≡ true) × (k ≡ nat_abs (z -ℤ s.lower))
IsPlaceIn s (Range lower upper step) k = k ≡ None

-- The number of the element with such subscripts, up to a multiple of 2 ^ 64, or one of them is out of bounds (6.2.2.2).
abbrev pub IsNumber : List Span → List Chosen → Option ℕ → Type 0
IsNumber ss cs None = all_inside ss cs ≡ false
IsNumber ss cs (Some k) = (all_inside ss cs ≡ true) × (i : ℕ) × (places_in ss cs ≡ i ∷ []) × (k ≡ i % 2 ^ 64)

-- the element with such subscripts of the component of a number of each element of an array
pub record IsInEach (types : Types) (a : Area) (k : ℕ) (cs : List Chosen) (z : Object) : Type 0 where
  pub component : Component
  pub number : ℕ
  pub is : component_of types.derived.now a.of k ≡ Some component
  pub inside : all_inside (spans_declared component.declared.dimensions.items) cs ≡ true
  pub selected : places_in (spans_declared component.declared.dimensions.items) cs ≡ number ∷ []
  pub stands : (a.elements).dims.items ≢ [] → z ≡ o.Stands (moved_from_one (offset_at (shape_in (shapes types) a.of) k
      + number * words_for (shape_in (shapes types) component.declared.kind.of)) component.declared.kind.of a)

abbrev pub PicksOfEach : Types → Area → ℕ → List Chosen → Result Object Stop → Type 0
PicksOfEach types a k cs (Ok z) = IsInEach types a k cs z
PicksOfEach types a k cs (Err (stop.Failed SubscriptOutOfBounds)) = (x : Component) × (component_of types.derived.now a.of k ≡ Some x)
    × (all_inside (spans_declared x.declared.dimensions.items) cs ≡ false)
PicksOfEach types a k cs (Err e) = component_of types.derived.now a.of k ≡ None

-- what is picked of an object, or of a component of each element
abbrev pub PicksIn : Types → Cell → List Chosen → Result Object Stop → Type 0
PicksIn types (c.Object z) cs result = Picks z cs result
PicksIn types (c.Each a k) cs result = AreSingle cs → PicksOfEach types a k cs result
PicksIn types x cs result = ⊤
