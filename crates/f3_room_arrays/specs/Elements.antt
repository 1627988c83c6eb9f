-- Which objects a descriptor tells of: whole arrays, sections, components of their elements (ISO/IEC 1539-1:2004, 6.1.2 and 6.2.2).
use Rattle.std.specs.Prelude.{◌≡◌, ℕ, ℤ, pos, false, List, [], Some}
use Rattle.std.specs.List.{AllZip}
use Rattle.f3_live_blocks.specs.Blocks.{Live}
use Rattle.f3_meaning_whole.specs.Value.{Value}
use Rattle.f3_meaning_whole.specs.Shape.{Shape}
use Rattle.f3_meaning_whole.specs.Store.{Path}
use Rattle.f3_desc.specs.declared.descriptor.Descriptor.{Descriptor}
use Rattle.f3_desc.specs.Descriptor.{places}
use Rattle.f3_desc.specs.Shape.{has_holder}
use Rattle.f3_rooms.specs.Held.{Row, end}
use Rattle.f3_rooms.specs.Forms.{Laid, words_for}
use Rattle.f3_rooms.specs.Values.{elements, object}
use Rattle.f3_rooms.specs.Rooms.{Rooms}
use Rattle.f3_rooms.specs.Places.{Found, found}
use Rattle.f3_room_objects.specs.Trees.{layout_for}

-- nothing in an object of the type is allocatable, at any depth (f3_desc, Layout: `holds_allocatable`)
abbrev pub IsFlat : Shape → Type 0
IsFlat s = has_holder (layout_for s) ≡ false

-- one object of a type stands at a place of a block, at the end of a path
pub record StandsAt (ts : List Shape) (x : Rooms) (block : ℕ) (s : Shape) (place : ℤ) (p : Path) : Type 0 where
  pub part : Found
  pub leads : found ts x p.root p.steps ≡ Some part
  pub there : part.block ≡ block
  pub at : pos part.at ≡ place
  pub shape : part.shape ≡ s
  pub form : part.form ≡ Laid 0 []

-- The descriptor's places are those of the objects of this type at these paths, in their order.
abbrev pub Tells : List Shape → Rooms → Descriptor → Shape → List Path → Type 0
Tells ts x a s ps = AllZip (StandsAt ts x a.block s) (places a) ps

-- so many objects of a type, one behind another, in which nothing is held
abbrev pub row : Live → Shape → ℕ → ℕ → ℕ → List Value
row m s k b o = elements k (words_for s) (object m s) b o end

-- the same, where this is held in them
abbrev pub held_row : Live → Shape → ℕ → ℕ → ℕ → Row → List Value
held_row m s k b o hs = elements k (words_for s) (object m s) b o hs
